-- What happens has a reply, and a plain state a turn.
use Rattle.std.proofs.Common.{◌≡◌, ◌≢◌, ℕ, ltb, leb, ◌-◌, ◌⊎◌, inl, inr, Bool, true, false, eqb, List, [], ◌∷◌, Option, Some, None, refl}
use Rattle.std.specs.Prelude.{if◌then◌else◌, ◌↔◌, IsTrue, MatchBool, IfSome}
use Rattle.std.specs.List.{AllByRecursion}
use Rattle.std.specs.FinMap.{get}
use Rattle.std.proofs.lemmas.Bool.{cases_Bool}
use Rattle.uefi_path.specs.Row.{IsByte}
use Rattle.uefi_vars.specs.Vars.{IsData}
use Rattle.uefi_vars.specs.Order.{IsEntryNumber}
use Rattle.uefi_vars.specs.Plan.{PlanParts, IsPlan}
use Rattle.boot_requests.specs.declared.request.Request.{Request}
use Rattle.boot_requests.specs.declared.reply.Reply.{Reply}
use Rattle.boot_requests.specs.declared.reply.Reply.TheVariants as reply
use Rattle.boot_requests.specs.Limits.{width}
use Rattle.boot_requests.specs.State.{State, IsState}
use Rattle.boot_requests.specs.Apply.{outcome_of, after_boot, HasPlanOf}
use Rattle.boot_requests.specs.Seen.{Seen, Came, Malformed, Prepare, Hand, Restart}
use Rattle.boot_requests.specs.Window.{Requests}
use Rattle.boot_requests.specs.Answer.{IsReplyTo, again, kept_outcome, choice_count, reply_to_hand}
use Rattle.boot_requests.specs.Run.{accepted_requests, gap_at, is_armed, before_taken, state_at, IsPending}
use Rattle.boot_requests.specs.Reply.{IsReply}
use Rattle.boot_requests.specs.Turn.{Plain, plain_start, after_delivery, Turn}
use Rattle.boot_requests.specs.Keeper.{AreRead}
use Rattle.boot_requests.proofs.WholeRuns.Told.{IsToldNear, IsToldNew, IsToldOfBoot, Prepares}

-- entries of bytes have a plan
abbrev pub HaveAPlan : Type 0
HaveAPlan = (entries : ℕ → Option (List ℕ)) (order : List ℕ) (next : Option ℕ) →
    ((number : ℕ) → IfSome (entries number) (AllByRecursion IsByte)) → (plan : PlanParts) × IsPlan entries order next plan

-- two requests are equal or not
abbrev pub AreEqualOrNot : Type 0
AreEqualOrNot = (a b : Request) → (a ≡ b) ⊎ (a ≢ b)

abbrev pub IsAnswered : (Reply → Type 0) → Type 0
IsAnswered P = (answer : Reply) × P answer

module _ (planned : HaveAPlan) (equal : AreEqualOrNot) where
  some_plan : (m : State) → IsState m → (plan : PlanParts) × HasPlanOf m plan
  some_plan m h = planned (get m.entries) m.order m.boot_next (λ number. bytes number (get m.entries number) (h.entries number))
    where
      bytes : (number : ℕ) (o : Option (List ℕ)) → IfSome o (λ b. IsEntryNumber number × IsData b) → IfSome o (AllByRecursion IsByte)
      bytes number None g = tt
      bytes number (Some b) g = g.1.bytes

  some_answer : (m : State) (requests : Requests) (gap after number : ℕ) (request : Request) → IsAnswered (IsReplyTo m requests gap after number request)
  some_answer m requests gap after number request =
      elim (ltb number gap) as (λ b.
      IsAnswered (λ answer. MatchBool b (answer ≡ again (kept_outcome m number)) (IsToldNew m gap after number request (get requests number) answer))) [
        | true ↦ (again (kept_outcome m number), refl)
        | false ↦ elim (leb width (number - gap)) as (λ b. IsAnswered (λ answer. MatchBool b (answer ≡ reply.Ahead gap) (Near answer (get requests number)))) [
          | true ↦ (reply.Ahead gap, refl)
          | false ↦ found (get requests number)
        ]
      ]
    where
      Near : Reply → Option Request → Type 0
      Near answer found = IsToldNear m gap after number request found answer

      found : (o : Option Request) → IsAnswered (λ answer. Near answer o)
      found None = ((if eqb number gap then reply.Applied (outcome_of m request) after else reply.Waiting gap), refl)
      found (Some other) = elim (equal other request) [
        | inl same ↦ (reply.Waiting gap, inr (same, refl))
        | inr apart ↦ (reply.Conflict, inl (apart, refl))
      ]

  module _ (start : State) (run : List Seen) (valid : IsState (state_at start run)) (taken : IsState (state_at start (before_taken run))) where
    some_pending : (plan : Option PlanParts) × IsPending start run plan
    some_pending = elim (cases_Bool (is_armed run)) [
      | inl t ↦ let plan = some_plan (state_at start (before_taken run)) taken in (Some plan.0, (t, plan.1))
      | inr t ↦ (None, t)
    ]

    pub some_reply : (seen : Seen) → IsAnswered (IsReply start run seen)
    some_reply (Came number request) =
        let first = start.next_number in
        some_answer (state_at start run) (accepted_requests first run) (gap_at first run) (gap_at first (Came number request ∷ run)) number request
    some_reply (Malformed fault) = (reply.Malformed fault, refl)
    some_reply Prepare =
        elim (is_armed run) as (λ b. IsAnswered (IsToldOfBoot b (state_at start run))) [
          | true ↦ (reply.AlreadyPrepared, refl)
          | false ↦ let plan = some_plan (state_at start run) valid in (reply.Prepared (choice_count plan.0), (plan.0, plan.1, refl))
        ]
    some_reply Hand = let pending = some_pending in (reply_to_hand pending.0, (pending.0, pending.1, refl))
    some_reply Restart = (reply.Restarted (gap_at start.next_number run), refl)

  pub some_turn : (k : Plain) (seen : Seen) → IsState k.state → (to : Plain) × IsAnswered (Turn k seen to)
  some_turn k (Came number request) h =
      let answered = some_answer k.state k.waiting k.state.next_number (after_delivery k number request).state.next_number number request in
      (after_delivery k number request, (answered.0, (refl, answered.1)))
  some_turn k (Malformed fault) h = (k, (reply.Malformed fault, (refl, refl)))
  some_turn k Prepare h = prepared k.plan
    where
      prepared : (found : Option PlanParts) → (to : Plain) × IsAnswered (Prepares k found to)
      prepared None =
          let plan = some_plan k.state h in
          (record k { state = after_boot k.state; plan = Some plan.0 }, (reply.Prepared (choice_count plan.0), (plan.0, plan.1, refl, refl)))
      prepared (Some plan) = (k, (reply.AlreadyPrepared, (refl, refl)))
  some_turn k Hand h = (record k { plan = None }, (reply_to_hand k.plan, (refl, refl)))
  some_turn k Restart h = (plain_start k.state, (reply.Restarted k.state.next_number, (refl, refl)))

-- what happened before the last boot that was taken was read too
pub before_read : (run : List Seen) → AreRead run → AreRead (before_taken run)
before_read [] h = tt
before_read (Came number request ∷ run) h = before_read run h.1
before_read (Prepare ∷ run) h = elim (is_armed run) as (λ b. AreRead (if b then before_taken run else run)) [ true ↦ before_read run h | false ↦ h ]
before_read (_ ∷ run) h = before_read run h

-- a test of equality decides it
pub decided : (test : Request → Request → Bool) → ((a b : Request) → IsTrue (test a b) ↔ (a ≡ b)) → AreEqualOrNot
decided test tells a b = elim (test a b) as (λ t. (IsTrue t ↔ (a ≡ b)) → (a ≡ b) ⊎ (a ≢ b)) [
  | true ↦ λ h. inl (h.0 refl)
  | false ↦ λ h. inr (λ same. let no : false ≡ true = h.1 same in cc)
] (tells a b)
