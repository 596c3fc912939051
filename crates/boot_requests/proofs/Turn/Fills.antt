-- What waits is applied one after the other, from the next number on.
use Rattle.std.proofs.Common.{◌≡◌, ◌≢◌, ℕ, suc, ltb, ◌+◌, ◌-◌, ◌<◌, ◌≤◌, cond, true, false, Some, None, IfSome, refl, sym, ap, ◌∙◌, inl, inr, arith, Option}
use Rattle.std.specs.Prelude.{is_some}
use Rattle.std.specs.FinMap.{get, insert, remove}
use Rattle.std.proofs.lemmas.Bool.Decides.{nat_tests}
use Rattle.std.proofs.lemmas.Bool.{cases_lt, lt-ltb, le-ltb}
use Rattle.boot_requests.specs.declared.request.Request.{Request}
use Rattle.boot_requests.specs.Limits.{width}
use Rattle.boot_requests.specs.Frame.{IsSent}
use Rattle.boot_requests.specs.State.{State}
use Rattle.boot_requests.specs.Apply.{after_request}
use Rattle.boot_requests.specs.Window.{Requests, gap_of}
use Rattle.boot_requests.specs.Changes.{changes_between, after_changes}
use Rattle.boot_requests.specs.Turn.{plain_start, settled_state}
use Rattle.boot_requests.specs.Keeper.{AreWaiting}
use Rattle.boot_requests.specs.StateOf.{plain_of}
use Rattle.boot_requests.proofs.WholeRuns.Numbers.{get_retained, same_numbers}
use Rattle.boot_requests.proofs.WholeRuns.Gaps.{gap_is, gap_one}
use Rattle.boot_requests.proofs.WholeRuns.Deliveries.{above_gap, same_changes, same_above, no_changes, first_change}
use Rattle.boot_requests.proofs.WholeRuns.NextNumbers.{after_request_number, changes_number}
use Rattle.boot_requests.proofs.Variables.Stored.{request_here, request_apart, request_gone, request_gone_apart, same_number_or_not}

-- what waits under the number, if anything, was read off a frame, and its number is above the next one and near it
abbrev pub IsWaitingAt : ℕ → ℕ → Option Request → Type 0
IsWaitingAt next q found = IfSome found (λ request. (next < q) × (q < next + width) × IsSent q request)

-- nothing waits under a number that isn't above the next one
pub none_waits : (next : ℕ) (requests : Requests) → AreWaiting next requests → (q : ℕ) → q ≤ next → get requests q ≡ None
none_waits next requests h q low =
    elim (get requests q) as (λ o. IsWaitingAt next q o → o ≡ None) [
      | None ↦ λ g. refl
      | Some request ↦ λ g. absurd (let above : next < q = g.0 in omega arith)
    ] (h q)

-- if nothing waits under a number that isn't above the next one, all is above it
pub all_above : (next : ℕ) (requests : Requests) → ((q : ℕ) → q ≤ next → get requests q ≡ None) → above_gap requests next ≡ requests
all_above next requests none = same_numbers _ _ (λ q. get_retained requests (λ n. ltb next n) q ∙ at q)
  where
    at : (q : ℕ) → cond (ltb next q) (get requests q) None ≡ get requests q
    at q = elim (ltb next q) as (λ b. ltb next q ≡ b → cond b (get requests q) None ≡ get requests q) [
      | true ↦ λ t. refl
      | false ↦ λ t. sym (none q (grind (arith, nat_tests, t)))
    ] refl

-- to take out the least number that can be above is to go one number up
pub above_more : (next : ℕ) (requests : Requests) → remove (above_gap requests next) (next + 1) ≡ above_gap requests (next + 1)
above_more next requests = same_numbers _ _ (λ q. elim (same_number_or_not (next + 1) q) [
  | inl same ↦ rw (← same)
      (request_gone (above_gap requests next) (next + 1)
      ∙ sym (get_retained requests (λ n. ltb (next + 1) n) (next + 1)
      ∙ ap (λ b. cond b (get requests (next + 1)) None) (le-ltb (next + 1) (next + 1) (omega arith))))
  | inr differ ↦ apart q differ
])
  where
    same_test : (q : ℕ) → next + 1 ≢ q → ltb next q ≡ ltb (next + 1) q
    same_test q differ = elim (cases_lt next q) [
      | inl low ↦ lt-ltb next q low ∙ sym (lt-ltb (next + 1) q (let apart : next + 1 ≢ q = differ in omega (arith, apart, low)))
      | inr high ↦ le-ltb next q high ∙ sym (le-ltb (next + 1) q (omega arith))
    ]

    apart : (q : ℕ) → next + 1 ≢ q → get (remove (above_gap requests next) (next + 1)) q ≡ get (above_gap requests (next + 1)) q
    apart q differ =
        request_gone_apart (above_gap requests next) (next + 1) q differ ∙ get_retained requests (λ n. ltb next n) q
        ∙ ap (λ b. cond b (get requests q) None) (same_test q differ) ∙ sym (get_retained requests (λ n. ltb (next + 1) n) q)

-- the next number then is the gap
pub settled_state_number : (m : State) (requests : Requests) →
    (after_changes m (changes_between m.next_number (gap_of m.next_number requests) requests)).next_number ≡ gap_of m.next_number requests
settled_state_number m requests =
    let at = gap_is m.next_number requests in
    changes_number (gap_of m.next_number requests - m.next_number) m.next_number (gap_of m.next_number requests) m requests (omega (arith, at.from)) at.filled
    ∙ omega (arith, at.from)

-- the state says what goes on waiting: what is above its next number
pub settled_state_is : (m to : State) (requests : Requests) → to ≡ (settled_state (plain_start m) requests).state →
    plain_of to (above_gap requests to.next_number) None ≡ settled_state (plain_start m) requests
settled_state_is m to requests is =
    let count : to.next_number ≡ gap_of m.next_number requests = ap (λ (s : State). s.next_number) is ∙ settled_state_number m requests in
    λ i. plain_of (is i) (above_gap requests (count i)) None

-- what waits below the next number doesn't matter
settled_state_from : (m : State) (a b : Requests) → ((q : ℕ) → m.next_number ≤ q → get a q ≡ get b q) →
    settled_state (plain_start m) a ≡ settled_state (plain_start m) b
settled_state_from m a b same =
    let inner = gap_is m.next_number b in
    let gap : gap_of m.next_number a ≡ gap_of m.next_number b = gap_one m.next_number a _ _ (gap_is m.next_number a) (record {
      from = inner.from;
      filled = λ q from below. ap is_some (same q from) ∙ inner.filled q from below;
      free = same (gap_of m.next_number b) inner.from ∙ inner.free;
    }) in
    let state = ap (λ (g : ℕ). after_changes m (changes_between m.next_number g a)) gap
    ∙ ap (after_changes m) (same_changes m.next_number (gap_of m.next_number b) a b same) in
    let waiting = ap (above_gap a) gap ∙ same_above m.next_number (gap_of m.next_number b) a b inner.from same in
    λ i. plain_of (state i) (waiting i) None

-- ---- the request of the next number is there

module _ (m : State) (requests : Requests) (request : Request) (held : get requests m.next_number ≡ Some request) where
  gap_same : gap_of m.next_number requests ≡ gap_of (suc m.next_number) requests
  gap_same =
      let inner = gap_is (suc m.next_number) requests in
      gap_one m.next_number requests _ _ (gap_is m.next_number requests) (record {
        from = omega (arith, inner.from);
        filled = λ q from below. elim (same_number_or_not m.next_number q) [
          | inl same ↦ rw (← same) (ap is_some held)
          | inr differ ↦ let apart : m.next_number ≢ q = differ in inner.filled q (omega (arith, apart)) below
        ];
        free = inner.free;
      })

  -- it is applied, and then those that follow it
  pub settled_state_next : settled_state (plain_start m) requests ≡ settled_state (plain_start (after_request m request)) requests
  settled_state_next =
      let after = gap_of (suc m.next_number) requests in
      let l : suc m.next_number ≤ after = (gap_is (suc m.next_number) requests).from in
      let count : (after_request m request).next_number ≡ suc m.next_number = after_request_number m request ∙ omega arith in
      let state = ap (λ (g : ℕ). after_changes m (changes_between m.next_number g requests)) gap_same
      ∙ ap (after_changes m) (first_change m.next_number after requests request held (omega (arith, l))) in
      let waiting = ap (above_gap requests) gap_same in
      let next =
      ap (λ (c : ℕ).
      plain_of (after_changes (after_request m request) (changes_between c (gap_of c requests) requests)) (above_gap requests (gap_of c requests)) None)
      (sym count) in
      (λ i. plain_of (state i) (waiting i) None) ∙ next

-- a request that fills the gap is applied, and then those that follow it among what waits
pub settled_state_filled : (m : State) (waiting : Requests) (request : Request) →
    settled_state (plain_start m) (insert waiting m.next_number request) ≡ settled_state (plain_start (after_request m request)) waiting
settled_state_filled m waiting request =
    settled_state_next m (insert waiting m.next_number request) request (request_here waiting m.next_number request)
    ∙ settled_state_from (after_request m request) (insert waiting m.next_number request) waiting
    (λ q l. request_apart waiting m.next_number request q (λ e. omega (arith, e, l, after_request_number m request)))

-- ---- it isn't

module _ (m : State) (requests : Requests) (free : get requests m.next_number ≡ None) where
  gap_here : gap_of m.next_number requests ≡ m.next_number
  gap_here = gap_one m.next_number requests _ _ (gap_is m.next_number requests) (record {
    from = omega arith;
    filled = λ q from below. absurd (omega arith);
    free = free;
  })

  -- nothing is applied
  pub settled_state_here : (settled_state (plain_start m) requests).state ≡ m
  settled_state_here =
      ap (λ (g : ℕ). after_changes m (changes_between m.next_number g requests)) gap_here
      ∙ ap (after_changes m) (no_changes m.next_number m.next_number requests (omega arith))

-- nothing is applied, and all goes on waiting
pub settled_state_none : (m : State) (requests : Requests) → ((q : ℕ) → q ≤ m.next_number → get requests q ≡ None) →
    settled_state (plain_start m) requests ≡ plain_of m requests None
settled_state_none m requests none =
    let free = none m.next_number (omega arith) in
    let state = settled_state_here m requests free in
    let waiting = ap (above_gap requests) (gap_here m requests free) ∙ all_above m.next_number requests none in
    λ i. plain_of (state i) (waiting i) None
