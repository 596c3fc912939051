-- A request that comes again changes nothing, then or later.
use Rattle.std.proofs.Common.{◌≡◌, ℕ, ltb, leb, ◌-◌, ◌<◌, ◌⊎◌, inl, inr, true, false, List, [], ◌∷◌, ◌++◌, Option, Some, None, refl, sym, ap, subst, ◌∙◌, arith}
use Rattle.std.specs.Prelude.{◌&&◌, not, if◌then◌else◌}
use Rattle.std.specs.FinMap.{contains_key, insert, retain_keys}
use Rattle.std.proofs.lemmas.Bool.Decides.{nat_tests}
use Rattle.std.proofs.Math.Bool.{and-false}
use Rattle.uefi_vars.specs.Plan.{PlanParts}
use Rattle.boot_requests.specs.declared.request.Request.{Request}
use Rattle.boot_requests.specs.declared.reply.Reply.{Reply}
use Rattle.boot_requests.specs.declared.reply.Reply.TheVariants as reply
use Rattle.boot_requests.specs.Limits.{width}
use Rattle.boot_requests.specs.State.{State}
use Rattle.boot_requests.specs.Apply.{HasPlanOf}
use Rattle.boot_requests.specs.Seen.{Seen, Came, Malformed, Prepare, Hand, Restart}
use Rattle.boot_requests.specs.Window.{Requests, gap_of, is_open}
use Rattle.boot_requests.specs.Changes.{Change, Boots, changes_between, after_changes}
use Rattle.boot_requests.specs.Answer.{IsReplyTo}
use Rattle.boot_requests.specs.Run.{accepted_requests, gap_at, is_armed, before_taken, new_changes, history, state_at, IsPending}
use Rattle.boot_requests.specs.Reply.{IsReply}
use Rattle.boot_requests.proofs.WholeRuns.NextNumbers.{accepted_closed, history_closed}
use Rattle.boot_requests.proofs.WholeRuns.Told.{IsToldOfBoot}

-- nothing that is asked of a run tells these two apart
pub record IsAlike (start : State) (x y : List Seen) : Type 0 where
  pub accepted_alike : accepted_requests start.next_number x ≡ accepted_requests start.next_number y
  pub history_alike : history start.next_number x ≡ history start.next_number y
  pub armed_alike : is_armed x ≡ is_armed y
  pub taken_alike : state_at start (before_taken x) ≡ state_at start (before_taken y)

module _ (start : State) (x y : List Seen) (h : IsAlike start x y) where
  abbrev first : ℕ
  first = start.next_number

  pub state_alike : state_at start x ≡ state_at start y
  state_alike = ap (after_changes start) h.history_alike

  accepted_next : (seen : Seen) → accepted_requests first (seen ∷ x) ≡ accepted_requests first (seen ∷ y)
  accepted_next (Came number request) =
      ap (λ (m : Requests). if is_open m (gap_of first m) number then insert m number request else m) h.accepted_alike
  accepted_next Restart = ap (λ (m : Requests). let gap = gap_of first m in retain_keys m (λ number. ltb number gap)) h.accepted_alike
  accepted_next _ = h.accepted_alike

  new_changes_next : (seen : Seen) → new_changes first x seen ≡ new_changes first y seen
  new_changes_next (Came number request) =
      ap (λ (m : Requests).
      changes_between (gap_of first m) (gap_at first (Came number request ∷ x)) (accepted_requests first (Came number request ∷ x))) h.accepted_alike
      ∙ ap (λ (m : Requests). changes_between (gap_at first y) (gap_of first m) m) (accepted_next (Came number request))
  new_changes_next Prepare = ap (λ b. if b then [] else Boots ∷ []) h.armed_alike
  new_changes_next _ = refl

  history_next : (seen : Seen) → history first (seen ∷ x) ≡ history first (seen ∷ y)
  history_next seen =
      ap (λ (cs : List Change). cs ++ new_changes first x seen) h.history_alike ∙ ap (λ (cs : List Change). history first y ++ cs) (new_changes_next seen)

  armed_next : (seen : Seen) → is_armed (seen ∷ x) ≡ is_armed (seen ∷ y)
  armed_next (Came number request) = h.armed_alike
  armed_next (Malformed fault) = h.armed_alike
  armed_next _ = refl

  taken_next : (seen : Seen) → state_at start (before_taken (seen ∷ x)) ≡ state_at start (before_taken (seen ∷ y))
  taken_next Prepare =
      ap (λ b. state_at start (if b then before_taken x else x)) h.armed_alike
      ∙ elim (is_armed y) as (λ b. state_at start (if b then before_taken x else x) ≡ state_at start (if b then before_taken y else y))
      [ true ↦ h.taken_alike | false ↦ state_alike ]
  taken_next _ = h.taken_alike

  pub alike_next : (seen : Seen) → IsAlike start (seen ∷ x) (seen ∷ y)
  alike_next seen = record {
    accepted_alike = accepted_next seen;
    history_alike = history_next seen;
    armed_alike = armed_next seen;
    taken_alike = taken_next seen;
  }

  pending_alike : (plan : Option PlanParts) → IsPending start x plan → IsPending start y plan
  pending_alike None g = sym h.armed_alike ∙ g
  pending_alike (Some plan) g = (sym h.armed_alike ∙ g.0, subst (λ (m : State). HasPlanOf m plan) h.taken_alike g.1)

  -- each later reply to the one is one to the other
  pub reply_alike : (seen : Seen) (answer : Reply) → IsReply start x seen answer → IsReply start y seen answer
  reply_alike (Came number request) answer g =
      subst (λ (after : ℕ). IsReplyTo (state_at start y) (accepted_requests first y) (gap_at first y) after number request answer)
      (ap (gap_of first) (accepted_next (Came number request)))
      (subst (λ (m : Requests). IsReplyTo (state_at start y) m (gap_of first m) (gap_at first (Came number request ∷ x)) number request answer) h.accepted_alike
      (subst (λ (m : State).
      IsReplyTo m (accepted_requests first x) (gap_at first x) (gap_at first (Came number request ∷ x)) number request answer) state_alike g))
  reply_alike (Malformed fault) answer g = g
  reply_alike Prepare answer g =
      subst (λ b. IsToldOfBoot b (state_at start y) answer) h.armed_alike
      (subst (λ (m : State). IsToldOfBoot (is_armed x) m answer) state_alike g)
  reply_alike Hand answer g = (g.0, pending_alike g.0 g.1, g.2)
  reply_alike Restart answer g = g ∙ ap (λ (m : Requests). reply.Restarted (gap_of first m)) h.accepted_alike

pub alike_later : (start : State) (later x y : List Seen) → IsAlike start x y → IsAlike start (later ++ x) (later ++ y)
alike_later start [] x y h = h
alike_later start (seen ∷ later) x y h = alike_next start (later ++ x) (later ++ y) (alike_later start later x y h) seen

-- a number below the gap, or one that is accepted, isn't open
closed_of : (requests : Requests) (gap number : ℕ) → (number < gap) ⊎ (contains_key requests number ≡ true) → is_open requests gap number ≡ false
closed_of requests gap number (inl below) =
    let no : leb gap number ≡ false = grind (arith, nat_tests, below) in
    ap (λ b. not (contains_key requests number) && (b && ltb (number - gap) width)) no ∙ and-false (not (contains_key requests number))
closed_of requests gap number (inr held) = ap (λ b. not b && (leb gap number && ltb (number - gap) width)) held

pub alike_repeat : (start : State) (run : List Seen) (number : ℕ) (request : Request) →
    (number < gap_at start.next_number run) ⊎ (contains_key (accepted_requests start.next_number run) number ≡ true) →
    IsAlike start (Came number request ∷ run) run
alike_repeat start run number request again =
    let closed = closed_of (accepted_requests start.next_number run) (gap_at start.next_number run) number again in
    record {
      accepted_alike = accepted_closed start.next_number run number request closed;
      history_alike = history_closed start.next_number run number request closed;
      armed_alike = refl;
      taken_alike = refl;
    }
