-- Whole runs: the state after a run has its gap as its next number.
use Rattle.std.proofs.Common.{◌≡◌, ℕ, zero, suc, ltb, ◌+◌, ◌-◌, ◌<◌, ◌≤◌, Bool, true, false, cond, List, [], ◌∷◌, ◌++◌, Option, Some, None, refl, sym, ap, ◌∙◌}
use Rattle.std.proofs.Common.{arith, inl, inr}
use Rattle.std.specs.Prelude.{is_some}
use Rattle.std.specs.Ordering.{nat_cmp}
use Rattle.std.specs.FinMap.{empty, get, contains_key, insert, retain_keys, get-empty}
use Rattle.std.proofs.lemmas.Bool.Decides.{nat_tests}
use Rattle.std.proofs.lemmas.List.{append-nil}
use Rattle.std.proofs.lemmas.Bool.{false≢true, cases_Bool}
use Rattle.boot_requests.specs.declared.request.Request.{Request}
use Rattle.boot_requests.specs.declared.request.Request.TheVariants.{AddFree, AddFirst}
use Rattle.boot_requests.specs.declared.outcome.Code.{Code}
use Rattle.boot_requests.specs.declared.outcome.Code.TheVariants.{Done}
use Rattle.boot_requests.specs.declared.outcome.Outcome.{Outcome}
use Rattle.boot_requests.specs.State.{State}
use Rattle.boot_requests.specs.Apply.{outcome_of, effect_if_done, effect_by, effect, after_request, after_boot}
use Rattle.boot_requests.specs.Seen.{Seen, Came, Prepare, Restart}
use Rattle.boot_requests.specs.Window.{Requests, gap_of, is_open}
use Rattle.boot_requests.specs.Changes.{Change, Applies, Boots, changes_between, after_changes}
use Rattle.boot_requests.specs.Run.{accepted_requests, gap_at, is_armed, new_changes, history, state_at}
use Rattle.boot_requests.proofs.WholeRuns.Numbers.{get_retained}
use Rattle.boot_requests.proofs.WholeRuns.Gaps.{IsGap, gap_is, gap_one}
use Rattle.boot_requests.proofs.WholeRuns.Deliveries.{above_gap, no_changes, first_change, gap_behind, changes_behind}

pub after_changes-append : (m : State) (xs ys : List Change) → after_changes m (xs ++ ys) ≡ after_changes (after_changes m xs) ys
after_changes-append m [] ys = refl
after_changes-append m (Applies number request ∷ xs) ys = after_changes-append (after_request m request) xs ys
after_changes-append m (Boots ∷ xs) ys = after_changes-append (after_boot m) xs ys

-- ---- one more request is counted

-- the next number and the outcomes that are kept stay as they are
pub record IsCountedAs (m n : State) : Type 0 where
  pub next_number : n.next_number ≡ m.next_number
  pub kept : n.kept ≡ m.kept

keeps_number_here : (m : State) → IsCountedAs m m
keeps_number_here m = record { next_number = refl; kept = refl }

effect_keeps_number : (m : State) (request : Request) (told : Option ℕ) → IsCountedAs m (effect_if_done m request told)
effect_keeps_number m (AddFree option) None = keeps_number_here m
effect_keeps_number m (AddFirst option) None = keeps_number_here m
effect_keeps_number m _ _ = record { next_number = refl; kept = refl }

effect_by_keeps_number : (m : State) (request : Request) (code : Code) (told : Option ℕ) → IsCountedAs m (effect_by m request code told)
effect_by_keeps_number m request Done told = effect_keeps_number m request told
effect_by_keeps_number m request _ told = keeps_number_here m

pub effect_number : (m : State) (request : Request) (outcome : Outcome) → (effect m request outcome).next_number ≡ m.next_number
effect_number m request outcome = (effect_by_keeps_number m request outcome.code outcome.entry).next_number

pub effect_kept : (m : State) (request : Request) (outcome : Outcome) → (effect m request outcome).kept ≡ m.kept
effect_kept m request outcome = (effect_by_keeps_number m request outcome.code outcome.entry).kept

pub after_request_number : (m : State) (request : Request) → (after_request m request).next_number ≡ m.next_number + 1
after_request_number m request = ap (λ n. n + 1) (effect_number m request (outcome_of m request))

pub some_of : {A : Type 0} (o : Option A) → is_some o ≡ true → (x : A) × (o ≡ Some x)
some_of (Some x) h = (x, refl)
some_of None h = absurd (false≢true h)

-- requests that follow each other without a gap are each counted
pub changes_number : (steps from to : ℕ) (m : State) (requests : Requests) → from + steps ≡ to →
    ((q : ℕ) → from ≤ q → q < to → contains_key requests q ≡ true) →
    (after_changes m (changes_between from to requests)).next_number ≡ m.next_number + steps
changes_number zero from to m requests is filled =
    ap (λ (changes : List Change). (after_changes m changes).next_number) (no_changes from to requests (omega arith)) ∙ omega arith
changes_number (suc steps) from to m requests is filled =
    let here = some_of (get requests from) (filled from (omega arith) (omega arith)) in
    ap (λ (changes : List Change). (after_changes m changes).next_number) (first_change from to requests here.0 here.1 (omega arith))
    ∙ changes_number steps (suc from) to (after_request m here.0) requests (omega arith) (λ q l below. filled q (omega arith) below)
    ∙ ap (λ n. n + steps) (after_request_number m here.0) ∙ omega arith

-- ---- what came, if its number is open, and if it isn't

abbrev chosen : {A : Type 0} → Bool → A → A → A
chosen b x y = cond b x y

module _ (first : ℕ) (run : List Seen) (number : ℕ) (request : Request) where
  abbrev before : Requests
  before = accepted_requests first run

  abbrev gap : ℕ
  gap = gap_at first run

  abbrev longer : List Seen
  longer = Came number request ∷ run

  -- those that wait, with the request
  abbrev joined : Requests
  joined = insert (above_gap before gap) number request

  at_gap : IsGap first before gap
  at_gap = gap_is first before

  module _ (open_is : is_open before gap number ≡ true) where
    pub accepted_open : accepted_requests first longer ≡ insert before number request
    accepted_open = ap (λ b. chosen b (insert before number request) before) open_is

    pub gap_open : gap_at first longer ≡ gap_of gap joined
    gap_open = ap (gap_of first) accepted_open ∙ gap_behind first gap before at_gap number request

    pub new_changes_open : new_changes first run (Came number request) ≡ changes_between gap (gap_of gap joined) joined
    new_changes_open =
        ap (changes_between gap (gap_at first longer)) accepted_open
        ∙ changes_behind first gap before at_gap number request (gap_at first longer)
        ∙ ap (λ to. changes_between gap to joined) gap_open

  module _ (closed_is : is_open before gap number ≡ false) where
    pub accepted_closed : accepted_requests first longer ≡ before
    accepted_closed = ap (λ b. chosen b (insert before number request) before) closed_is

    pub gap_closed : gap_at first longer ≡ gap
    gap_closed = ap (gap_of first) accepted_closed

    pub new_changes_closed : new_changes first run (Came number request) ≡ []
    new_changes_closed = no_changes gap (gap_at first longer) (accepted_requests first longer) (omega (arith, gap_closed))

    pub history_closed : history first longer ≡ history first run
    history_closed = ap (λ (changes : List Change). history first run ++ changes) new_changes_closed ∙ append-nil (history first run)

-- ---- the gap after a run is the next number of the state

pub gap_of_none : (first : ℕ) → gap_of first empty ≡ first
gap_of_none first = gap_one first empty _ _ (gap_is first empty) (record {
  from = omega arith;
  filled = λ q from below. absurd (omega arith);
  free = get-empty nat_cmp first;
})

-- to forget what is above the gap leaves it where it is
pub gap_kept : (first : ℕ) (requests : Requests) → gap_of first (retain_keys requests (λ number. ltb number (gap_of first requests))) ≡ gap_of first requests
gap_kept first requests =
    let gap = gap_of first requests in
    let at = gap_is first requests in
    let kept = retain_keys requests (λ number. ltb number gap) in
    gap_one first kept _ _ (gap_is first kept) (record {
      from = at.from;
      filled = λ q from below.
          let yes : ltb q gap ≡ true = grind (arith, nat_tests, below) in
          ap is_some (get_retained requests (λ number. ltb number gap) q ∙ ap (λ b. cond b (get requests q) None) yes) ∙ at.filled q from below;
      free =
          let no : ltb gap gap ≡ false = grind (arith, nat_tests) in
          get_retained requests (λ number. ltb number gap) gap ∙ ap (λ b. cond b (get requests gap) None) no;
    })

pub history_number : (first : ℕ) (run : List Seen) (m : State) → m.next_number ≡ first → (after_changes m (history first run)).next_number ≡ gap_at first run
history_number first [] m is = is ∙ sym (gap_of_none first)
history_number first (Came number request ∷ run) m is =
    elim (cases_Bool (is_open (accepted_requests first run) (gap_at first run) number)) [
      | inl t ↦
          let from : ℕ = gap_at first run in
          let all : Requests = insert (above_gap (accepted_requests first run) from) number request in
          let to : ℕ = gap_of from all in
          let inner = gap_is from all in
          let l : from ≤ to = inner.from in
          ap (λ (changes : List Change). (after_changes m (history first run ++ changes)).next_number) (new_changes_open first run number request t)
          ∙ ap (λ (s : State). s.next_number) (after_changes-append m (history first run) (changes_between from to all))
          ∙ changes_number (to - from) from to (after_changes m (history first run)) all (omega arith) inner.filled
          ∙ ap (λ n. n + (to - from)) (history_number first run m is) ∙ omega arith ∙ sym (gap_open first run number request t)
      | inr t ↦
          ap (λ (changes : List Change). (after_changes m changes).next_number) (history_closed first run number request t)
          ∙ history_number first run m is ∙ sym (gap_closed first run number request t)
    ]
history_number first (Prepare ∷ run) m is =
    ap (λ (s : State). s.next_number) (after_changes-append m (history first run) (chosen (is_armed run) [] (Boots ∷ [])))
    ∙ elim (is_armed run) as (λ b.
    (after_changes (after_changes m (history first run)) (chosen b [] (Boots ∷ []))).next_number ≡ (after_changes m (history first run)).next_number)
    [ true ↦ refl | false ↦ refl ]
    ∙ history_number first run m is
history_number first (Restart ∷ run) m is =
    ap (λ (changes : List Change). (after_changes m changes).next_number) (append-nil (history first run)) ∙ history_number first run m is
    ∙ sym (gap_kept first (accepted_requests first run))
history_number first (_ ∷ run) m is =
    ap (λ (changes : List Change). (after_changes m changes).next_number) (append-nil (history first run)) ∙ history_number first run m is

-- the next number after a run is its gap
pub state_number : (start : State) (run : List Seen) → (state_at start run).next_number ≡ gap_at start.next_number run
state_number start run = history_number start.next_number run start refl
