-- A request that comes: what it does to the accepted requests, and to those of them that wait.
use Rattle.std.proofs.Common.{◌≡◌, ℕ, suc, leb, ltb, ◌-◌, ◌<◌, ◌≤◌, inl, inr, Bool, true, false, cond, eqb, List, [], ◌∷◌, map, Option, Some, None, refl, sym}
use Rattle.std.proofs.Common.{ap, ◌∙◌, arith}
use Rattle.std.specs.Prelude.{◌&&◌, not, is_some}
use Rattle.std.specs.FinMap.{get, insert, retain_keys, entries}
use Rattle.std.proofs.lemmas.Bool.Decides.{nat_tests}
use Rattle.std.proofs.lemmas.Bool.{cases_lt}
use Rattle.std.proofs.Math.Bool.{and-false}
use Rattle.boot_requests.specs.declared.request.Request.{Request}
use Rattle.boot_requests.specs.Limits.{width}
use Rattle.boot_requests.specs.Window.{Requests, gap_of, is_open}
use Rattle.boot_requests.specs.Changes.{Applies, changes_between}
use Rattle.boot_requests.proofs.WholeRuns.Numbers.{is_between, get_between, between_first, between_none, get_inserted, get_retained, same_numbers}
use Rattle.boot_requests.proofs.WholeRuns.Numbers.{entries_of_empty}
use Rattle.boot_requests.proofs.WholeRuns.Gaps.{IsGap, gap_is, gap_one}

-- those of the accepted requests that wait
abbrev pub above_gap : Requests → ℕ → Requests
above_gap requests gap = retain_keys requests (λ number. ltb gap number)

module _ (requests : Requests) (gap : ℕ) (free : get requests gap ≡ None) where
  -- from the gap on, the waiting ones are the accepted ones
  pub get_waiting : (q : ℕ) → gap ≤ q → get (above_gap requests gap) q ≡ get requests q
  get_waiting q l = get_retained requests (λ n. ltb gap n) q ∙ elim (cases_lt gap q) [
    | inl above ↦ let yes : ltb gap q ≡ true = grind (arith, nat_tests, above) in ap (λ b. cond b (get requests q) None) yes
    | inr below ↦
        let no : ltb gap q ≡ false = grind (arith, nat_tests, below) in
        let at : q ≡ gap = omega arith in
        ap (λ b. cond b (get requests q) None) no ∙ sym (ap (get requests) at ∙ free)
  ]

  pub get_waiting_with : (number : ℕ) (request : Request) (q : ℕ) → gap ≤ q →
      get (insert (above_gap requests gap) number request) q ≡ get (insert requests number request) q
  get_waiting_with number request q l =
      get_inserted _ number request q ∙ ap (cond (eqb q number) (Some request)) (get_waiting q l) ∙ sym (get_inserted requests number request q)

  -- a number is open among the waiting ones if it is among the accepted ones
  pub open_waiting : (number : ℕ) → is_open (above_gap requests gap) gap number ≡ is_open requests gap number
  open_waiting number =
      elim (leb gap number) as (λ b.
      leb gap number ≡ b →
      (not (is_some (get (above_gap requests gap) number)) && (b && ltb (number - gap) width))
      ≡ (not (is_some (get requests number)) && (b && ltb (number - gap) width))) [
        | true ↦ λ t.
            let l : gap ≤ number = grind (arith, nat_tests, t) in ap (λ o. not (is_some o) && (true && ltb (number - gap) width)) (get_waiting number l)
        | false ↦ λ t. and-false _ ∙ sym (and-false _)
      ] refl

-- requests that are the same between two numbers have the same changes there
pub same_within : (from to : ℕ) (m n : Requests) → ((q : ℕ) → from ≤ q → q < to → get m q ≡ get n q) → changes_between from to m ≡ changes_between from to n
same_within from to m n same =
    let maps : retain_keys m (is_between from to) ≡ retain_keys n (is_between from to) = same_numbers _ _ (λ q.
    get_between m from to q ∙ at q ∙ sym (get_between n from to q)) in
    ap (λ (x : Requests). map (λ entry. Applies entry.0 entry.1) (entries x)) maps
  where
    at : (q : ℕ) → cond (is_between from to q) (get m q) None ≡ cond (is_between from to q) (get n q) None
    at q = elim (is_between from to q) as (λ b. is_between from to q ≡ b → cond b (get m q) None ≡ cond b (get n q) None) [
      | true ↦ λ t. same q (grind (arith, nat_tests, t)) (grind (arith, nat_tests, t))
      | false ↦ λ t. refl
    ] refl

-- and so do those that are the same from a number on
pub same_changes : (from to : ℕ) (m n : Requests) → ((q : ℕ) → from ≤ q → get m q ≡ get n q) → changes_between from to m ≡ changes_between from to n
same_changes from to m n same = same_within from to m n (λ q l below. same q l)

-- the waiting requests above a number are the accepted ones if both are the same from there on
pub same_above : (from to : ℕ) (m n : Requests) → from ≤ to → ((q : ℕ) → from ≤ q → get m q ≡ get n q) → above_gap m to ≡ above_gap n to
same_above from to m n l same = same_numbers _ _ (λ q.
    get_retained m (λ k. ltb to k) q ∙ at q ∙ sym (get_retained n (λ k. ltb to k) q))
  where
    at : (q : ℕ) → cond (ltb to q) (get m q) None ≡ cond (ltb to q) (get n q) None
    at q = elim (cases_lt to q) [
      | inl above ↦ ap (λ o. cond (ltb to q) o None) (same q (omega arith))
      | inr below ↦ let no : ltb to q ≡ false = grind (arith, nat_tests, below) in ap (λ b. cond b (get m q) None) no ∙ sym (ap (λ b. cond b (get n q) None) no)
    ]

-- no changes are between a number and one that isn't greater
pub no_changes : (from to : ℕ) (m : Requests) → to ≤ from → changes_between from to m ≡ []
no_changes from to m l =
    ap (λ (x : Requests). map (λ entry. Applies entry.0 entry.1) (entries x)) (between_none m from to l)
    ∙ ap (λ (es : List (ℕ × Request)). map (λ entry. Applies entry.0 entry.1) es) entries_of_empty

-- the first of the changes between two numbers, and the others
pub first_change : (from to : ℕ) (m : Requests) (request : Request) → get m from ≡ Some request → from < to →
    changes_between from to m ≡ Applies from request ∷ changes_between (suc from) to m
first_change from to m request held l = ap (map (λ entry. Applies entry.0 entry.1)) (between_first m from to request held l)

-- ---- a request whose number is open

module _ (first gap : ℕ) (requests : Requests) (at : IsGap first requests gap) (number : ℕ) (request : Request) where
  -- those that wait, with the request
  abbrev joined : Requests
  joined = insert (above_gap requests gap) number request

  kept_some : (b : Bool) (o : Option Request) → is_some o ≡ true → is_some (cond b (Some request) o) ≡ true
  kept_some true o h = refl
  kept_some false o h = h

  -- the gap after it is the same, among all accepted ones and among those that wait
  pub gap_behind : gap_of first (insert requests number request) ≡ gap_of gap joined
  gap_behind =
      let inner = gap_is gap joined in
      gap_one first (insert requests number request) _ _ (gap_is first (insert requests number request)) (record {
        from = omega (arith, at.from, inner.from);
        filled = λ q from below. elim (cases_lt q gap) [
          | inl l ↦ ap is_some (get_inserted requests number request q) ∙ kept_some (eqb q number) (get requests q) (at.filled q from l)
          | inr l ↦ ap is_some (sym (get_waiting_with requests gap at.free number request q l)) ∙ inner.filled q l below
        ];
        free = sym (get_waiting_with requests gap at.free number request _ inner.from) ∙ inner.free;
      })

  -- what is applied with it is the same
  pub changes_behind : (to : ℕ) → changes_between gap to (insert requests number request) ≡ changes_between gap to joined
  changes_behind to = same_changes gap to _ _ (λ q l. sym (get_waiting_with requests gap at.free number request q l))

  -- what waits after it is the same
  pub waiting_behind : (to : ℕ) → gap ≤ to → above_gap joined to ≡ above_gap (insert requests number request) to
  waiting_behind to l = same_above gap to _ _ l (λ q above. get_waiting_with requests gap at.free number request q above)
