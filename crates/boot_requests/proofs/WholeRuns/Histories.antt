-- What histories do: their numbers, what becomes of an entry, and of BootNext.
use Rattle.std.proofs.Common.{◌≡◌, ℕ, zero, suc, ltb, ◌+◌, ◌-◌, ◌<◌, ◌≤◌, true, false, cond, eqb, List, [], ◌∷◌, ◌++◌, map, Option, Some, None, refl, sym, ap}
use Rattle.std.proofs.Common.{subst, ◌∙◌, arith, inl, inr}
use Rattle.std.specs.Prelude.{IfSome, if◌then◌else◌}
use Rattle.std.specs.Option.{option_map}
use Rattle.std.specs.List.{AllByRecursion}
use Rattle.std.specs.FinMap.{get, contains_key, insert, get-empty}
use Rattle.std.specs.Ordering.{nat_cmp}
use Rattle.std.proofs.lemmas.Bool.Decides.{nat_tests}
use Rattle.std.proofs.lemmas.List.{append-nil}
use Rattle.std.proofs.lemmas.Bool.{cases_Bool}
use Rattle.uefi_option.specs.LoadOption.{option_bytes}
use Rattle.boot_requests.specs.declared.request.Request.{Request}
use Rattle.boot_requests.specs.declared.outcome.Outcome.{Outcome}
use Rattle.boot_requests.specs.Request.{IsRequest}
use Rattle.boot_requests.specs.Frame.{IsSent}
use Rattle.boot_requests.specs.State.{State}
use Rattle.boot_requests.specs.Apply.{outcome_of, effect, after_request, after_boot, Stored, stored_by}
use Rattle.boot_requests.specs.Seen.{Seen, Came, Prepare, Restart}
use Rattle.boot_requests.specs.Window.{Requests, gap_of, is_open}
use Rattle.boot_requests.specs.Changes.{Change, Applies, Boots, changes_between, after_changes, numbers_in, numbers_from}
use Rattle.boot_requests.specs.Run.{accepted_requests, gap_at, is_armed, new_changes, history, state_at, last_with, last_in, last_of}
use Rattle.boot_requests.specs.Keeper.{AreRead, IsLeft}
use Rattle.boot_requests.proofs.WholeRuns.Numbers.{get_inserted, get_retained, each_between}
use Rattle.boot_requests.proofs.WholeRuns.Gaps.{gap_is}
use Rattle.boot_requests.proofs.WholeRuns.Deliveries.{above_gap, no_changes, first_change}
use Rattle.boot_requests.proofs.WholeRuns.Effects.{IsValid, stands_after, entry_after, stored_valid, spelled}
use Rattle.boot_requests.proofs.WholeRuns.NextNumbers.{some_of, gap_open, new_changes_open, history_closed, gap_closed, gap_of_none, gap_kept}
use Rattle.boot_requests.proofs.Variables.Stored.{IsSentAt}

-- ---- the numbers of a history

numbers_in-append : (xs ys : List Change) → numbers_in (xs ++ ys) ≡ numbers_in xs ++ numbers_in ys
numbers_in-append [] ys = refl
numbers_in-append (Applies number request ∷ xs) ys = ap (λ ns. number ∷ ns) (numbers_in-append xs ys)
numbers_in-append (Boots ∷ xs) ys = numbers_in-append xs ys

numbers_from-append : (first a b : ℕ) → numbers_from first (a + b) ≡ numbers_from first a ++ numbers_from (first + a) b
numbers_from-append first zero b =
    let all : zero + b ≡ b = omega arith in
    let at : first ≡ first + zero = omega arith in
    ap (λ n. numbers_from first n) all ∙ ap (λ n. numbers_from n b) at
numbers_from-append first (suc a) b =
    let all : suc a + b ≡ suc (a + b) = omega arith in
    let at : suc first + a ≡ first + suc a = omega arith in
    ap (λ n. numbers_from first n) all
    ∙ ap (λ ns. first ∷ ns) (numbers_from-append (suc first) a b ∙ ap (λ n. numbers_from (suc first) a ++ numbers_from n b) at)

changes_numbers : (steps from to : ℕ) (requests : Requests) → from + steps ≡ to →
    ((q : ℕ) → from ≤ q → q < to → contains_key requests q ≡ true) → numbers_in (changes_between from to requests) ≡ numbers_from from steps
changes_numbers zero from to requests is filled = ap numbers_in (no_changes from to requests (omega arith))
changes_numbers (suc steps) from to requests is filled =
    let here = some_of (get requests from) (filled from (omega arith) (omega arith)) in
    ap numbers_in (first_change from to requests here.0 here.1 (omega arith))
    ∙ ap (λ ns. from ∷ ns) (changes_numbers steps (suc from) to requests (omega arith) (λ q l below. filled q (omega arith) below))

-- the numbers of a history are those from the first one to below the gap, in their order
pub history_numbers : (first : ℕ) (run : List Seen) → numbers_in (history first run) ≡ numbers_from first (gap_at first run - first)
history_numbers first [] =
    let none = gap_of_none first in
    let no : gap_at first [] - first ≡ zero = omega arith in
    sym (ap (λ n. numbers_from first n) no)
history_numbers first (Came number request ∷ run) =
    elim (cases_Bool (is_open (accepted_requests first run) (gap_at first run) number)) [
      | inl t ↦
          let from : ℕ = gap_at first run in
          let all : Requests = insert (above_gap (accepted_requests first run) from) number request in
          let to : ℕ = gap_of from all in
          let inner = gap_is from all in
          let l : from ≤ to = inner.from in
          let low : first ≤ from = (gap_is first (accepted_requests first run)).from in
          let at : from ≡ first + (from - first) = omega arith in
          let all_steps : (from - first) + (to - from) ≡ to - first = omega arith in
          numbers_in-append (history first run) (new_changes first run (Came number request))
          ∙ ap (λ (changes : List Change). numbers_in (history first run) ++ numbers_in changes) (new_changes_open first run number request t)
          ∙ ap (λ (ns : List ℕ). numbers_in (history first run) ++ ns) (changes_numbers (to - from) from to all (omega arith) inner.filled)
          ∙ ap (λ (ns : List ℕ). ns ++ numbers_from from (to - from)) (history_numbers first run)
          ∙ ap (λ n. numbers_from first (from - first) ++ numbers_from n (to - from)) at
          ∙ sym (numbers_from-append first (from - first) (to - from))
          ∙ ap (λ n. numbers_from first n) all_steps
          ∙ ap (λ g. numbers_from first (g - first)) (sym (gap_open first run number request t))
      | inr t ↦
          ap numbers_in (history_closed first run number request t) ∙ history_numbers first run
          ∙ ap (λ g. numbers_from first (g - first)) (sym (gap_closed first run number request t))
    ]
history_numbers first (Prepare ∷ run) =
    numbers_in-append (history first run) (new_changes first run Prepare)
    ∙ elim (is_armed run) as (λ b. numbers_in (history first run) ++ numbers_in (if b then [] else Boots ∷ []) ≡ numbers_in (history first run))
    [ true ↦ append-nil (numbers_in (history first run)) | false ↦ append-nil (numbers_in (history first run)) ]
    ∙ history_numbers first run
history_numbers first (Restart ∷ run) =
    ap numbers_in (append-nil (history first run)) ∙ history_numbers first run
    ∙ ap (λ g. numbers_from first (g - first)) (sym (gap_kept first (accepted_requests first run)))
history_numbers first (_ ∷ run) = ap numbers_in (append-nil (history first run)) ∙ history_numbers first run

-- ---- the requests of a history were sent

abbrev pub AreSent : List Change → Type 0
AreSent [] = Unit {0}
AreSent (Applies number request ∷ changes) = IsSent number request × AreSent changes
AreSent (Boots ∷ changes) = AreSent changes

AreSent-append : (xs ys : List Change) → AreSent xs → AreSent ys → AreSent (xs ++ ys)
AreSent-append [] ys g h = h
AreSent-append (Applies number request ∷ xs) ys g h = (g.0, AreSent-append xs ys g.1 h)
AreSent-append (Boots ∷ xs) ys g h = AreSent-append xs ys g h

accepted_sent : (first : ℕ) (run : List Seen) → AreRead run → (q : ℕ) → IsSentAt q (get (accepted_requests first run) q)
accepted_sent first [] h q = subst (IsSentAt q) (sym (get-empty nat_cmp q)) tt
accepted_sent first (Came number request ∷ run) h q =
    elim (is_open (accepted_requests first run) (gap_at first run) number) as (λ b.
    IfSome (get (cond b (insert (accepted_requests first run) number request) (accepted_requests first run)) q) (IsSent q)) [
      | true ↦ subst (IsSentAt q) (sym (get_inserted (accepted_requests first run) number request q))
          (elim (eqb q number) as (λ b. eqb q number ≡ b → IfSome (cond b (Some request) (get (accepted_requests first run) q)) (IsSent q)) [
            | true ↦ λ t. let is : number ≡ q = grind (arith, nat_tests, t) in subst (λ (n : ℕ). IsSent n request) is h.0
            | false ↦ λ t. accepted_sent first run h.1 q
          ] refl)
      | false ↦ accepted_sent first run h.1 q
    ]
accepted_sent first (Restart ∷ run) h q =
    subst (IsSentAt q) (sym (get_retained (accepted_requests first run) (λ number. ltb number (gap_at first run)) q))
    (elim (ltb q (gap_at first run)) as (λ b. IsSentAt q (cond b (get (accepted_requests first run) q) None))
    [ true ↦ accepted_sent first run h q | false ↦ tt ])
accepted_sent first (_ ∷ run) h q = accepted_sent first run h q

changes_of : (es : List (ℕ × Request)) → AllByRecursion (λ e. IsSent e.0 e.1) es → AreSent (map (λ e. Applies e.0 e.1) es)
changes_of [] h = tt
changes_of (e ∷ es) h = (h.0, changes_of es h.1)

pub history_sent : (first : ℕ) (run : List Seen) → AreRead run → AreSent (history first run)
history_sent first [] h = tt
history_sent first (Came number request ∷ run) h =
    AreSent-append (history first run) (new_changes first run (Came number request)) (history_sent first run h.1)
    (changes_of _ (each_between IsSent (accepted_requests first (Came number request ∷ run)) (gap_at first run) (gap_at first (Came number request ∷ run))
    (accepted_sent first (Came number request ∷ run) h)))
history_sent first (Prepare ∷ run) h =
    AreSent-append (history first run) (new_changes first run Prepare) (history_sent first run h)
    (elim (is_armed run) as (λ b. AreSent (if b then [] else Boots ∷ [])) [ true ↦ tt | false ↦ tt ])
history_sent first (_ ∷ run) h = AreSent-append (history first run) [] (history_sent first run h) tt

-- ---- what becomes of an entry

module _ (before : Option (List ℕ)) (entry : ℕ) where
  after_stored : (stored last : Option Stored) (now : Option (List ℕ)) → IsValid stored → IsLeft before last now →
      IsLeft before (last_with stored entry last) (stands_after stored entry now)
  after_stored None last now valid h = h
  after_stored (Some stored) last now valid h =
      elim (eqb entry stored.entry) as (λ b. IsLeft before (if b then Some stored else last) (cond b (option_map option_bytes stored.option) now)) [
        | true ↦ spelled stored.option valid
        | false ↦ h
      ]

  abbrev Left : Option Stored → State → Type 0
  Left last m = IsLeft before last (get m.entries entry)

  after_one : (m : State) (request : Request) (last : Option Stored) (outcome : Outcome) → IsRequest request → Left last m →
      Left (last_with (stored_by request outcome) entry last) (effect m request outcome)
  after_one m request last outcome valid h =
      subst (IsLeft before (last_with (stored_by request outcome) entry last)) (sym (entry_after m request outcome entry))
      (after_stored (stored_by request outcome) last (get m.entries entry) (stored_valid request outcome valid) h)

  pub left_by : (m : State) (changes : List Change) (last : Option Stored) → AreSent changes → Left last m →
      Left (last_in m changes entry last) (after_changes m changes)
  left_by m [] last valid h = h
  left_by m (Applies number request ∷ changes) last valid h =
      left_by (after_request m request) changes _ valid.1 (after_one m request last (outcome_of m request) valid.0.1.valid h)
  left_by m (Boots ∷ changes) last valid h = left_by (after_boot m) changes last valid h

pub entry_left : (start : State) (run : List Seen) (entry : ℕ) → AreRead run →
    IsLeft (get start.entries entry) (last_of start run entry) (get (state_at start run).entries entry)
entry_left start run entry read =
    left_by (get start.entries entry) entry start (history start.next_number run) None (history_sent start.next_number run read) refl
