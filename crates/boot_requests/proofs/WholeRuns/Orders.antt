-- Deliveries of the same requests lead to one state, in whatever order they come.
use Rattle.std.proofs.Common.{◌≡◌, ℕ, zero, suc, ltb, leb, ◌+◌, ◌-◌, ◌<◌, ◌≤◌, inl, inr, Bool, true, false, cond, eqb, List, [], ◌∷◌, ◌++◌, Option, Some, None}
use Rattle.std.proofs.Common.{refl, sym, ap, ◌∙◌, arith}
use Rattle.std.specs.Prelude.{◌&&◌, not, is_some}
use Rattle.std.specs.Ordering.{nat_cmp}
use Rattle.std.specs.FinMap.{get, contains_key, get-empty}
use Rattle.std.proofs.lemmas.Bool.Decides.{nat_tests}
use Rattle.std.proofs.lemmas.Bool.{cases_lt, cases_Bool, leb-true, and_parts}
use Rattle.std.proofs.lemmas.List.{append-nil}
use Rattle.boot_requests.specs.declared.request.Request.{Request}
use Rattle.boot_requests.specs.Limits.{width}
use Rattle.boot_requests.specs.State.{State}
use Rattle.boot_requests.specs.Seen.{Seen, Came, Malformed}
use Rattle.boot_requests.specs.Window.{Requests, gap_of, is_open}
use Rattle.boot_requests.specs.Changes.{Change, Applies, changes_between, after_changes}
use Rattle.boot_requests.specs.Run.{accepted_requests, gap_at, history, state_at, Delivers, AreTaken, AgreeOnNumbers}
use Rattle.boot_requests.proofs.WholeRuns.Numbers.{get_inserted, same_numbers}
use Rattle.boot_requests.proofs.WholeRuns.Gaps.{IsGap, gap_is}
use Rattle.boot_requests.proofs.WholeRuns.Deliveries.{no_changes, first_change, same_within}
use Rattle.boot_requests.proofs.WholeRuns.NextNumbers.{some_of, accepted_open, accepted_closed, gap_closed, history_closed, gap_of_none}

-- ---- the history of deliveries alone is the accepted requests below the gap

-- changes from one number to another, and on from there
changes-append : (steps from mid to : ℕ) (m : Requests) → from + steps ≡ mid → mid ≤ to →
    ((q : ℕ) → from ≤ q → q < mid → contains_key m q ≡ true) → changes_between from to m ≡ changes_between from mid m ++ changes_between mid to m
changes-append zero from mid to m is l filled =
    let at : from ≡ mid = omega arith in
    ap (λ n. changes_between n to m) at ∙ sym (ap (λ (cs : List Change). cs ++ changes_between mid to m) (no_changes from mid m (omega arith)))
changes-append (suc steps) from mid to m is l filled =
    let here = some_of (get m from) (filled from (omega arith) (omega arith)) in
    first_change from to m here.0 here.1 (omega arith)
    ∙ ap (λ (cs : List Change). Applies from here.0 ∷ cs)
    (changes-append steps (suc from) mid to m (omega arith) l (λ q low below. filled q (omega arith) below))
    ∙ sym (ap (λ (cs : List Change). cs ++ changes_between mid to m) (first_change from mid m here.0 here.1 (omega arith)))

-- an open number is at the gap or above it
open_low : (requests : Requests) (gap number : ℕ) → is_open requests gap number ≡ true → gap ≤ number
open_low requests gap number t = leb-true gap number (and_parts _ _ (and_parts _ _ t).1).0

history_is : (first : ℕ) (run : List Seen) → AreTaken first run → history first run ≡ changes_between first (gap_at first run) (accepted_requests first run)
history_is first [] h = sym (no_changes first (gap_at first []) (accepted_requests first []) (let none = gap_of_none first in omega arith))
history_is first (Came number request ∷ run) h =
    elim (cases_Bool (is_open (accepted_requests first run) (gap_at first run) number)) [
      | inl t ↦
          let gap : ℕ = gap_at first run in
          let old : Requests = accepted_requests first run in
          let new : Requests = accepted_requests first (Came number request ∷ run) in
          let low : gap ≤ number = open_low old gap number t in
          let at_old : IsGap first old gap = gap_is first old in
          let at_new = gap_is first new in
          let same : (q : ℕ) → q < gap → get new q ≡ get old q = λ q below.
          let apart : eqb q number ≡ false = grind (arith, nat_tests, low, below) in
          ap (λ (m : Requests). get m q) (accepted_open first run number request t) ∙ get_inserted old number request q
          ∙ ap (λ b. cond b (Some request) (get old q)) apart in
          let filled : (q : ℕ) → first ≤ q → q < gap → contains_key new q ≡ true = λ q from below. ap is_some (same q below) ∙ at_old.filled q from below in
          let l : gap ≤ gap_at first (Came number request ∷ run) = no_lower gap (gap_at first (Came number request ∷ run)) new filled at_new in
          ap (λ (cs : List Change). cs ++ changes_between gap (gap_at first (Came number request ∷ run)) new)
          (history_is first run h.1 ∙ sym (same_within first gap new old (λ q from below. same q below)))
          ∙ sym (changes-append (gap - first) first gap (gap_at first (Came number request ∷ run)) new (let from = at_old.from in omega arith) l filled)
      | inr t ↦
          history_closed first run number request t ∙ history_is first run h.1
          ∙ sym (ap (changes_between first (gap_at first (Came number request ∷ run))) (accepted_closed first run number request t)
          ∙ ap (λ to. changes_between first to (accepted_requests first run)) (gap_closed first run number request t))
    ]
  where
    no_lower : (gap after : ℕ) (new : Requests) → ((q : ℕ) → first ≤ q → q < gap → contains_key new q ≡ true) → IsGap first new after → gap ≤ after
    no_lower gap after new filled at = elim (cases_lt after gap) [
      | inl below ↦ absurd
          (let held : contains_key new after ≡ true = filled after at.from below in
          let none : contains_key new after ≡ false = ap is_some at.free in
          let clash : true ≡ false = sym held ∙ none in
          cc)
      | inr l ↦ l
    ]
history_is first (Malformed fault ∷ run) h = append-nil (history first run) ∙ history_is first run h
history_is first (_ ∷ run) h = absurd h

-- ---- the accepted requests are those that were delivered

module _ (first : ℕ) where
  accepted_is_delivered : (run : List Seen) → AreTaken first run → (q : ℕ) (request : Request) → get (accepted_requests first run) q ≡ Some request →
      Delivers run q request × (first ≤ q)
  accepted_is_delivered [] h q request found = absurd (let none : get (accepted_requests first []) q ≡ None = get-empty nat_cmp q in cc)
  accepted_is_delivered (Came number other ∷ run) h q request found =
      elim (cases_Bool (is_open (accepted_requests first run) (gap_at first run) number)) [
        | inl t ↦
            let old : Requests = accepted_requests first run in
            let low : gap_at first run ≤ number = open_low old (gap_at first run) number t in
            let from : first ≤ gap_at first run = (gap_is first old).from in
            let is : cond (eqb q number) (Some other) (get old q) ≡ Some request =
            sym (ap (λ (m : Requests). get m q) (accepted_open first run number other t) ∙ get_inserted old number other q) ∙ found in
            elim (eqb q number) as (λ b.
            eqb q number ≡ b → cond b (Some other) (get old q) ≡ Some request → Delivers (Came number other ∷ run) q request × (first ≤ q)) [
              | true ↦ λ e same. let at : number ≡ q = grind (arith, nat_tests, e) in (inl (at, cc), omega arith)
              | false ↦ λ e same. let rest = accepted_is_delivered run h.1 q request same in (inr rest.0, rest.1)
            ] refl is
        | inr t ↦
            let rest = accepted_is_delivered run h.1 q request (sym (ap (λ (m : Requests). get m q) (accepted_closed first run number other t)) ∙ found) in
            (inr rest.0, rest.1)
      ]
  accepted_is_delivered (Malformed fault ∷ run) h q request found = accepted_is_delivered run h q request found
  accepted_is_delivered (_ ∷ run) h q request found = absurd h

  -- a number that isn't open, nor too far ahead, is accepted
  held_of : (run : List Seen) (number : ℕ) → is_open (accepted_requests first run) (gap_at first run) number ≡ false → number < gap_at first run + width →
      first ≤ number → contains_key (accepted_requests first run) number ≡ true
  held_of run number t near from =
      let at : IsGap first (accepted_requests first run) (gap_at first run) = gap_is first (accepted_requests first run) in
      elim (cases_lt number (gap_at first run)) [
        | inl below ↦ at.filled number from below
        | inr l ↦
            let low : leb (gap_at first run) number ≡ true = grind (arith, nat_tests, l) in
            let close : ltb (number - gap_at first run) width ≡ true = grind (arith, nat_tests, near, l) in
            let is : (not (contains_key (accepted_requests first run) number) && (true && true)) ≡ false =
            sym (ap (λ b. not (contains_key (accepted_requests first run) number) && (b && ltb (number - gap_at first run) width)) low
            ∙ ap (λ b. not (contains_key (accepted_requests first run) number) && (true && b)) close) ∙ t in
            held (contains_key (accepted_requests first run) number) is
      ]
    where
      held : (b : Bool) → (not b && true) ≡ false → b ≡ true
      held true h = refl
      held false h = sym h

  delivered_is_accepted : (run : List Seen) → AreTaken first run → AgreeOnNumbers run → (q : ℕ) (request : Request) → first ≤ q → Delivers run q request →
      get (accepted_requests first run) q ≡ Some request
  delivered_is_accepted [] h agree q request from d = absurd d
  delivered_is_accepted (Came number other ∷ run) h agree q request from d =
      let before : Delivers run q request → get (accepted_requests first run) q ≡ Some request =
      λ e. delivered_is_accepted run h.1 (λ n a b x y. agree n a b (inr x) (inr y)) q request from e in
      elim (cases_Bool (is_open (accepted_requests first run) (gap_at first run) number)) [
        | inl t ↦ ap (λ (m : Requests). get m q) (accepted_open first run number other t) ∙ get_inserted (accepted_requests first run) number other q
            ∙ taken before t d
        | inr t ↦ ap (λ (m : Requests). get m q) (accepted_closed first run number other t) ∙ left before t d
      ]
    where
      Before : Type 0
      Before = Delivers run q request → get (accepted_requests first run) q ≡ Some request

      taken : Before → is_open (accepted_requests first run) (gap_at first run) number ≡ true → Delivers (Came number other ∷ run) q request →
          cond (eqb q number) (Some other) (get (accepted_requests first run) q) ≡ Some request
      taken before t (inl at) =
          let same : q ≡ number = sym at.0 in
          let yes : eqb q number ≡ true = grind (arith, nat_tests, same) in
          ap (λ b. cond b (Some other) (get (accepted_requests first run) q)) yes ∙ ap (λ (r : Request). Some r) at.1
      taken before t (inr e) =
          let found = before e in
          elim (eqb q number) as (λ b. eqb q number ≡ b → cond b (Some other) (get (accepted_requests first run) q) ≡ Some request) [
            | true ↦ λ y. let is : q ≡ number = grind (arith, nat_tests, y) in ap (λ (r : Request). Some r) (agree q other request (inl (sym is, refl)) (inr e))
            | false ↦ λ y. found
          ] refl

      left : Before → is_open (accepted_requests first run) (gap_at first run) number ≡ false → Delivers (Came number other ∷ run) q request →
          get (accepted_requests first run) q ≡ Some request
      left before t (inl at) =
          let held : contains_key (accepted_requests first run) q ≡ true = rw at.0 at (held_of run number t h.0 (omega (arith, at.0))) in
          let found = some_of (get (accepted_requests first run) q) held in
          found.1 ∙ ap (λ (r : Request). Some r) (agree q found.0 request (inr (accepted_is_delivered run h.1 q found.0 found.1).0) (inl at))
      left before t (inr e) = before e
  delivered_is_accepted (Malformed fault ∷ run) h agree q request from d = delivered_is_accepted run h agree q request from d
  delivered_is_accepted (_ ∷ run) h agree q request from d = absurd h

  same_accepted : (x y : List Seen) → AreTaken first x → AreTaken first y → AgreeOnNumbers x → AgreeOnNumbers y →
      ((q : ℕ) (r : Request) → Delivers x q r → Delivers y q r) → ((q : ℕ) (r : Request) → Delivers y q r → Delivers x q r) →
      accepted_requests first x ≡ accepted_requests first y
  same_accepted x y hx hy ax ay over back = same_numbers _ _ (λ q. at q (get (accepted_requests first x) q) (get (accepted_requests first y) q) refl refl)
    where
      at : (q : ℕ) (a b : Option Request) → get (accepted_requests first x) q ≡ a → get (accepted_requests first y) q ≡ b →
          get (accepted_requests first x) q ≡ get (accepted_requests first y) q
      at q (Some r) b ea eb = let d = accepted_is_delivered x hx q r ea in ea ∙ sym (delivered_is_accepted y hy ay q r d.1 (over q r d.0))
      at q None (Some r) ea eb = let d = accepted_is_delivered y hy q r eb in delivered_is_accepted x hx ax q r d.1 (back q r d.0) ∙ sym eb
      at q None None ea eb = ea ∙ sym eb

pub same_state : (start : State) (x y : List Seen) → AreTaken start.next_number x → AreTaken start.next_number y → AgreeOnNumbers x → AgreeOnNumbers y →
    ((q : ℕ) (r : Request) → Delivers x q r → Delivers y q r) → ((q : ℕ) (r : Request) → Delivers y q r → Delivers x q r) → state_at start x ≡ state_at start y
same_state start x y hx hy ax ay over back =
    ap (after_changes start) (history_is start.next_number x hx
    ∙ ap (λ (m : Requests). changes_between start.next_number (gap_of start.next_number m) m) (same_accepted start.next_number x y hx hy ax ay over back)
    ∙ sym (history_is start.next_number y hy))
