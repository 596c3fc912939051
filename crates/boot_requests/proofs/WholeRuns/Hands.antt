-- A plan is handed out with an entry as BootNext's at most as often as BootNext was set to the entry.
use Rattle.std.proofs.Common.{◌≡◌, ℕ, ◌+◌, ◌≤◌, Bool, true, false, eqb, List, [], ◌∷◌, ◌++◌, Option, Some, None, refl, sym, ap, subst, ◌∙◌, arith}
use Rattle.std.specs.Prelude.{◌&&◌, if◌then◌else◌}
use Rattle.std.specs.FinMap.{get}
use Rattle.uefi_vars.specs.declared.boot_plan.Choice.{Choice}
use Rattle.uefi_vars.specs.Plan.{PlanParts, plan_parts, IsNextChoice}
use Rattle.boot_requests.specs.declared.request.Request.{Request}
use Rattle.boot_requests.specs.declared.request.Request.TheVariants.{Remove, Next, AddFree, AddFirst}
use Rattle.boot_requests.specs.declared.outcome.Code.{Code}
use Rattle.boot_requests.specs.declared.outcome.Code.TheVariants.{Done}
use Rattle.boot_requests.specs.declared.outcome.Outcome.{Outcome}
use Rattle.boot_requests.specs.declared.reply.Reply.{Reply}
use Rattle.boot_requests.specs.declared.reply.Reply.TheVariants as reply
use Rattle.boot_requests.specs.State.{State}
use Rattle.boot_requests.specs.Apply.{outcome_of, effect_if_done, effect_by, after_request, after_boot, next_without, HasPlanOf}
use Rattle.boot_requests.specs.Seen.{Seen, Came, Malformed, Prepare, Hand, Restart}
use Rattle.boot_requests.specs.Window.{Requests}
use Rattle.boot_requests.specs.Changes.{Change, Applies, Boots, after_changes}
use Rattle.boot_requests.specs.Run.{accepted_requests, gap_at, is_armed, before_taken, new_changes, history, state_at, IsPending, is_next, is_done}
use Rattle.boot_requests.specs.Run.{is_next_entry, sets_in, sets}
use Rattle.boot_requests.specs.Answer.{IsReplyTo, again, kept_outcome, reply_to_hand}
use Rattle.boot_requests.specs.Reply.{AreReplies, hands_out, hands}
use Rattle.boot_requests.proofs.WholeRuns.NextNumbers.{after_changes-append}
use Rattle.boot_requests.proofs.WholeRuns.Told.{IsToldOfBoot, by_answer}

module _ (entry : ℕ) where
  -- 1 if BootNext is the entry
  abbrev pub held : State → ℕ
  held m = if is_next_entry m.boot_next entry then 1 else 0

  abbrev pub set_by : State → Request → ℕ
  set_by m request = if is_next request entry && is_done (outcome_of m request).code then 1 else 0

  more : (n : ℕ) (b : Bool) → n ≤ n + (if b then 1 else 0)
  more n b = omega arith

  without_held : (next : Option ℕ) (number : ℕ) →
      (if is_next_entry (next_without next number) entry then 1 else 0) ≤ (if is_next_entry next entry then 1 else 0)
  without_held None number = omega arith
  without_held (Some next) number =
      elim (eqb next number) as (λ b. (if is_next_entry (if b then None else Some next) entry then 1 else 0) ≤ (if eqb next entry then 1 else 0))
      [ true ↦ omega arith | false ↦ omega arith ]

  done_held : (m : State) (request : Request) (told : Option ℕ) →
      held (effect_if_done m request told) ≤ held m + (if is_next request entry && true then 1 else 0)
  done_held m (Remove number) told = let less = without_held m.boot_next number in omega arith
  done_held m (AddFree option) None = omega arith
  done_held m (AddFirst option) None = omega arith
  done_held m (Next next) told =
      elim (eqb next entry) as (λ b. (if b then 1 else 0) ≤ held m + (if b && true then 1 else 0)) [ true ↦ omega arith | false ↦ omega arith ]
  done_held m _ _ = omega arith

  held_by : (m : State) (request : Request) (code : Code) (told : Option ℕ) →
      held (effect_by m request code told) ≤ held m + (if is_next request entry && is_done code then 1 else 0)
  held_by m request Done told = done_held m request told
  held_by m request _ told = more (held m) (is_next request entry && false)

  changes_held : (m : State) (changes : List Change) → held (after_changes m changes) ≤ held m + sets_in m changes entry
  changes_held m [] = omega arith
  changes_held m (Applies number request ∷ changes) =
      let rest : held (after_changes (after_request m request) changes) ≤ held (after_request m request) + sets_in (after_request m request) changes entry =
      changes_held (after_request m request) changes in
      let one : held (after_request m request) ≤ held m + set_by m request = held_by m request (outcome_of m request).code (outcome_of m request).entry in
      omega arith
  changes_held m (Boots ∷ changes) =
      let rest : held (after_changes (after_boot m) changes) ≤ 0 + sets_in (after_boot m) changes entry = changes_held (after_boot m) changes in
      omega arith

  sets_in-append : (m : State) (xs ys : List Change) → sets_in m (xs ++ ys) entry ≡ sets_in m xs entry + sets_in (after_changes m xs) ys entry
  sets_in-append m [] ys = omega arith
  sets_in-append m (Applies number request ∷ xs) ys =
      let rest : sets_in (after_request m request) (xs ++ ys) entry
      ≡ sets_in (after_request m request) xs entry + sets_in (after_changes (after_request m request) xs) ys entry =
      sets_in-append (after_request m request) xs ys in
      omega arith
  sets_in-append m (Boots ∷ xs) ys = sets_in-append (after_boot m) xs ys

  -- how often what happens next sets it
  abbrev sets_next : State → List Seen → Seen → ℕ
  sets_next start run seen = sets_in (state_at start run) (new_changes start.next_number run seen) entry

  sets_more : (start : State) (run : List Seen) (seen : Seen) → sets start (seen ∷ run) entry ≡ sets start run entry + sets_next start run seen
  sets_more start run seen = omega (arith, sets_in-append start (history start.next_number run) (new_changes start.next_number run seen))

  held_more : (start : State) (run : List Seen) (seen : Seen) → held (state_at start (seen ∷ run)) ≤ held (state_at start run) + sets_next start run seen
  held_more start run seen =
      subst (λ (m : State). held m ≤ held (state_at start run) + sets_next start run seen)
      (sym (after_changes-append start (history start.next_number run) (new_changes start.next_number run seen)))
      (changes_held (state_at start run) (new_changes start.next_number run seen))

  -- how often a plan would hand out the entry
  abbrev pub pending_hand : Option PlanParts → ℕ
  pending_hand plan = hands_out (reply_to_hand plan) entry

  choice_held : (entries : ℕ → Option (List ℕ)) (order : List ℕ) (next : Option ℕ) (choice : Option Choice) → IsNextChoice entries next choice →
      hands_out (reply.Plan (plan_parts choice [])) entry ≤ (if is_next_entry next entry then 1 else 0)
  choice_held entries order None choice h = rw h (omega arith)
  choice_held entries order (Some number) None h = omega arith
  choice_held entries order (Some number) (Some choice) h =
      subst (λ (n : ℕ). (if eqb choice.number entry then 1 else 0) ≤ (if eqb n entry then 1 else 0)) h.0 (omega arith)

  -- a plan names the entry only if BootNext does
  plan_held : (m : State) (plan : PlanParts) → HasPlanOf m plan → pending_hand (Some plan) ≤ held m
  plan_held m plan h = choice_held (get m.entries) m.order m.boot_next plan.next h.first

  no_hand : (m : State) (requests : Requests) (gap after number : ℕ) (request : Request) (answer : Reply) →
      IsReplyTo m requests gap after number request answer → hands_out answer entry ≡ 0
  no_hand m requests gap after number request answer =
      by_answer m requests gap after number request answer (hands_out answer entry ≡ 0)
      (λ h. ap (λ a. hands_out a entry) h ∙ again_none (kept_outcome m number)) (λ h. ap (λ a. hands_out a entry) h)
      (λ none here h. ap (λ a. hands_out a entry) h) (λ h. ap (λ a. hands_out a entry) h) (λ h. ap (λ a. hands_out a entry) h)
    where
      again_none : (o : Option Outcome) → hands_out (again o) entry ≡ 0
      again_none None = refl
      again_none (Some outcome) = refl

  -- what was handed out, what a prepared plan would hand out, and what BootNext holds were all set
  pub record Hands (start : State) (run : List Seen) (answers : List Reply) : Type 0 where
    pub given : hands answers entry + held (state_at start run) ≤ sets start run entry
    pub prepared : (plan : Option PlanParts) → IsPending start run plan →
        hands answers entry + pending_hand plan + held (state_at start run) ≤ sets start run entry

  -- what happens without a boot and without an answer that hands out a plan
  quiet : (start : State) (run : List Seen) (seen : Seen) (answer : Reply) (answers : List Reply) → hands_out answer entry ≡ 0 →
      ((plan : Option PlanParts) → IsPending start (seen ∷ run) plan → IsPending start run plan) → Hands start run answers →
      Hands start (seen ∷ run) (answer ∷ answers)
  quiet start run seen answer answers none same h =
      let set = sets_more start run seen in
      let kept = held_more start run seen in
      record {
        given = let before = h.given in omega arith;
        prepared = λ plan pending. let before = h.prepared plan (same plan pending) in omega arith;
      }

  was_pending : (start : State) (run : List Seen) (number : ℕ) (request : Request) (plan : Option PlanParts) →
      IsPending start (Came number request ∷ run) plan → IsPending start run plan
  was_pending start run number request None h = h
  was_pending start run number request (Some plan) h = h

  pub all_hands : (start : State) (run : List Seen) (answers : List Reply) → AreReplies start run answers → Hands start run answers
  all_hands start [] answers h = record { given = rw h (omega arith); prepared = λ plan pending. rw h (nothing plan pending) }
    where
      nothing : (plan : Option PlanParts) → IsPending start [] plan → 0 + pending_hand plan + held start ≤ held start + 0
      nothing None pending = omega arith
      nothing (Some plan) pending = absurd (let no = pending.0 in cc)
  all_hands start (seen ∷ run) [] h = absurd h
  all_hands start (Came number request ∷ run) (answer ∷ answers) h =
      quiet start run (Came number request) answer answers
      (no_hand (state_at start run) (accepted_requests start.next_number run) (gap_at start.next_number run)
      (gap_at start.next_number (Came number request ∷ run)) number request answer h.0)
      (was_pending start run number request) (all_hands start run answers h.1)
  all_hands start (Malformed fault ∷ run) (answer ∷ answers) h =
      quiet start run (Malformed fault) answer answers (ap (λ a. hands_out a entry) h.0) same (all_hands start run answers h.1)
    where
      same : (plan : Option PlanParts) → IsPending start (Malformed fault ∷ run) plan → IsPending start run plan
      same None p = p
      same (Some plan) p = p
  all_hands start (Prepare ∷ run) (answer ∷ answers) h =
      let rest = all_hands start run answers h.1 in
      elim (is_armed run) as (λ b. is_armed run ≡ b → IsToldOfBoot b (state_at start run) answer → Hands start (Prepare ∷ run) (answer ∷ answers)) [
        | true ↦ λ t a. quiet start run Prepare answer answers (ap (λ r. hands_out r entry) a) (kept t) rest
        | false ↦ λ t a.
            let none : hands_out answer entry ≡ 0 = ap (λ r. hands_out r entry) a.2 in
            let set = sets_more start run Prepare in
            let gone : held (state_at start (Prepare ∷ run)) ≡ 0 =
            ap held (after_changes-append start (history start.next_number run) (new_changes start.next_number run Prepare)
            ∙ ap (λ b. after_changes (state_at start run) (if b then [] else Boots ∷ [])) t) in
            let before = rest.given in
            record { given = omega arith; prepared = λ plan pending. let less = taken t plan pending in omega arith }
      ] refl h.0
    where
      kept : is_armed run ≡ true → (plan : Option PlanParts) → IsPending start (Prepare ∷ run) plan → IsPending start run plan
      kept t None p = absurd (let no : true ≡ false = p in cc)
      kept t (Some plan) p = (t, subst (λ b. HasPlanOf (state_at start (if b then before_taken run else run)) plan) t p.1)

      taken : is_armed run ≡ false → (plan : Option PlanParts) → IsPending start (Prepare ∷ run) plan → pending_hand plan ≤ held (state_at start run)
      taken t None p = absurd (let no : true ≡ false = p in cc)
      taken t (Some plan) p = plan_held (state_at start run) plan (rw t at p.1)
  all_hands start (Hand ∷ run) (answer ∷ answers) h =
      let rest = all_hands start run answers h.1 in
      let plan = h.0.0 in
      let out : hands_out answer entry ≡ pending_hand plan = ap (λ a. hands_out a entry) h.0.2 in
      let set = sets_more start run Hand in
      let kept = held_more start run Hand in
      let before = rest.prepared plan h.0.1 in
      record { given = omega arith; prepared = λ other pending. let none = no_more other pending in omega arith }
    where
      no_more : (other : Option PlanParts) → IsPending start (Hand ∷ run) other → pending_hand other ≡ 0
      no_more None p = refl
      no_more (Some other) p = absurd (let no : false ≡ true = p.0 in cc)
  all_hands start (Restart ∷ run) (answer ∷ answers) h =
      let rest = all_hands start run answers h.1 in
      let none : hands_out answer entry ≡ 0 = ap (λ a. hands_out a entry) h.0 in
      let set = sets_more start run Restart in
      let kept = held_more start run Restart in
      let before = rest.given in
      record { given = omega arith; prepared = λ other pending. let no = forgotten other pending in omega arith }
    where
      forgotten : (other : Option PlanParts) → IsPending start (Restart ∷ run) other → pending_hand other ≡ 0
      forgotten None p = refl
      forgotten (Some other) p = absurd (let no : false ≡ true = p.0 in cc)

pub hands_up_to_sets : (start : State) (run : List Seen) (answers : List Reply) (entry : ℕ) → AreReplies start run answers →
    hands answers entry ≤ sets start run entry
hands_up_to_sets start run answers entry h = let all = (all_hands entry start run answers h).given in omega arith

-- right after a boot is taken BootNext is gone
pub next_gone : (start : State) (run : List Seen) → is_armed run ≡ false → (state_at start (Prepare ∷ run)).boot_next ≡ None
next_gone start run t =
    ap (λ (m : State). m.boot_next)
    (after_changes-append start (history start.next_number run) (new_changes start.next_number run Prepare)
    ∙ ap (λ b. after_changes (state_at start run) (if b then [] else Boots ∷ [])) t)
