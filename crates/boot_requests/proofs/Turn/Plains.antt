-- A turn leads from a plain state that a keeper can be in to such a one.
--
-- Such a state is one that its bytes can spell, and each request that waits in it was read off a frame, has a number
-- above the next one and is within the window. A boot, a hand-over and a restart change nothing of that, or take the
-- requests away. A delivery is the case with work in it: it may put a request among those that wait (`after_delivery`),
-- after which each of them is at the next number or above it, within the window (`AreNear`). Then all up to the gap are
-- applied, one after the other, by which the state stays one that can be spelled (`after_changes_valid`, along the number
-- of steps), and those above the gap wait on (`settled_state_plain`). That requests can be spelled comes from a lemma that
-- this file takes as an argument, since the crate's options are spelled in another one.
use Rattle.std.proofs.Common.{◌≡◌, ℕ, zero, suc, ltb, ◌+◌, ◌-◌, ◌<◌, ◌≤◌, true, false, cond, List, [], ◌∷◌, Option, Some, None, IfSome, refl, sym, subst, ◌∙◌}
use Rattle.std.proofs.Common.{arith, inl, inr}
use Rattle.std.specs.Prelude.{if◌then◌else◌}
use Rattle.std.specs.List.{AllByRecursion}
use Rattle.std.specs.Ordering.{nat_cmp}
use Rattle.std.specs.FinMap.{get, contains_key, insert, get-empty}
use Rattle.std.proofs.lemmas.Bool.Decides.{nat_tests}
use Rattle.uefi_path.specs.Row.{IsByte}
use Rattle.uefi_option.specs.LoadOption.{OptionParts, IsOption, SpellsOption}
use Rattle.uefi_vars.specs.Plan.{PlanParts}
use Rattle.boot_requests.specs.declared.request.Request.{Request}
use Rattle.boot_requests.specs.declared.reply.Reply.{Reply}
use Rattle.boot_requests.specs.Limits.{width}
use Rattle.boot_requests.specs.Frame.{IsSent}
use Rattle.boot_requests.specs.State.{State, IsState}
use Rattle.boot_requests.specs.Apply.{after_request}
use Rattle.boot_requests.specs.Seen.{Seen, Came, Malformed, Prepare, Hand, Restart}
use Rattle.boot_requests.specs.Window.{Requests, gap_of, is_open}
use Rattle.boot_requests.specs.Changes.{Change, changes_between, after_changes}
use Rattle.boot_requests.specs.Turn.{Plain, plain_start, settled_state, after_delivery, Turn}
use Rattle.boot_requests.specs.Keeper.{AreRead, AreWaiting, IsPlain}
use Rattle.boot_requests.proofs.WholeRuns.Numbers.{get_retained}
use Rattle.boot_requests.proofs.WholeRuns.Gaps.{gap_is}
use Rattle.boot_requests.proofs.WholeRuns.Deliveries.{no_changes, first_change}
use Rattle.boot_requests.proofs.WholeRuns.NextNumbers.{after_request_number, some_of}
use Rattle.boot_requests.proofs.WholeRuns.Valid.{after_request_valid, after_boot_valid}
use Rattle.boot_requests.proofs.Variables.Stored.{request_here, request_apart, same_number_or_not, IsSentAt}
use Rattle.boot_requests.proofs.Turn.Fills.{IsWaitingAt, settled_state_number}
use Rattle.boot_requests.proofs.WholeRuns.Told.{Prepares}

-- what is under the number, if anything, was read off a frame, and its number is the next one or above it and near it
abbrev IsNearAt : ℕ → ℕ → Option Request → Type 0
IsNearAt next q found = IfSome found (λ request. (next ≤ q) × (q < next + width) × IsSent q request)

-- requests that can be applied from this number on
abbrev AreNear : ℕ → Requests → Type 0
AreNear next requests = (q : ℕ) → IsNearAt next q (get requests q)

module _ (spelled : (option : OptionParts) → IsOption option → (bytes : List ℕ) × SpellsOption bytes option × AllByRecursion IsByte bytes) where
  -- requests that follow each other without a gap lead from a state to a state
  after_changes_valid : (steps to : ℕ) (m : State) (requests : Requests) → m.next_number + steps ≡ to →
      ((q : ℕ) → m.next_number ≤ q → q < to → contains_key requests q ≡ true) → ((q : ℕ) → IfSome (get requests q) (IsSent q)) →
      IsState m → IsState (after_changes m (changes_between m.next_number to requests))
  after_changes_valid zero to m requests is filled sent h =
      subst (λ (changes : List Change). IsState (after_changes m changes)) (sym (no_changes m.next_number to requests (omega arith))) h
  after_changes_valid (suc steps) to m requests is filled sent h =
      let first = some_of (get requests m.next_number) (filled m.next_number (omega arith) (omega arith)) in
      let was : IsSent m.next_number first.0 = subst (IsSentAt m.next_number) first.1 (sent m.next_number) in
      let next : (after_request m first.0).next_number ≡ suc m.next_number = after_request_number m first.0 ∙ omega arith in
      let rest = after_changes_valid steps to (after_request m first.0) requests (omega (arith, next))
      (λ q l below. filled q (omega (arith, next, l)) below) sent (after_request_valid spelled m first.0 h was) in
      subst (λ (changes : List Change). IsState (after_changes m changes)) (sym (first_change m.next_number to requests first.0 first.1 (omega arith)))
      (subst (λ (n : ℕ). IsState (after_changes (after_request m first.0) (changes_between n to requests))) next rest)

  settled_state_plain : (k : Plain) (requests : Requests) → IsState k.state → AreNear k.state.next_number requests → IsPlain (settled_state k requests)
  settled_state_plain k requests h near =
      let next = k.state.next_number in
      let after = gap_of next requests in
      let at = gap_is next requests in
      record {
        state = after_changes_valid (after - next) after k.state requests (omega (arith, at.from)) at.filled (λ q. only_sent q (get requests q) (near q)) h;
        waiting = subst (λ (n : ℕ). AreWaiting n (settled_state k requests).waiting) (sym (settled_state_number k.state requests)) (λ q.
            subst (IsWaitingAt after q) (sym (get_retained requests (λ n. ltb after n) q))
            (elim (ltb after q) as (λ b. ltb after q ≡ b → IsWaitingAt after q (cond b (get requests q) None)) [
              | true ↦ λ t. above next after q (get requests q) at.from (grind (arith, nat_tests, t)) (near q)
              | false ↦ λ t. tt
            ] refl));
      }
    where
      only_sent : (q : ℕ) (o : Option Request) → IsNearAt k.state.next_number q o → IsSentAt q o
      only_sent q None g = tt
      only_sent q (Some request) g = g.2

      above : (next after q : ℕ) (o : Option Request) → next ≤ after → after < q → IsNearAt next q o → IsWaitingAt after q o
      above next after q None l high g = tt
      above next after q (Some request) l high g = (high, (let near = g.1 in omega arith), g.2)

  open_near : (requests : Requests) (gap number : ℕ) → is_open requests gap number ≡ true → (gap ≤ number) × (number < gap + width)
  open_near requests gap number t = (grind (arith, nat_tests, t), grind (arith, nat_tests, t))

  after_delivery_plain : (k : Plain) (number : ℕ) (request : Request) → IsPlain k → IsSent number request → IsPlain (after_delivery k number request)
  after_delivery_plain k number request h sent =
      elim (is_open k.waiting k.state.next_number number) as (λ b.
      is_open k.waiting k.state.next_number number ≡ b → IsPlain (if b then settled_state k (insert k.waiting number request) else k)) [
        | true ↦ λ t. let range = open_near k.waiting k.state.next_number number t in settled_state_plain k (insert k.waiting number request) h.state (λ q.
            elim (same_number_or_not number q) [
              | inl same ↦ rw (← same) (subst (IsNearAt k.state.next_number number) (sym (request_here k.waiting number request)) (range.0, range.1, sent))
              | inr differ ↦ subst (IsNearAt k.state.next_number q) (sym (request_apart k.waiting number request q differ))
                  (weaker q (get k.waiting q) (h.waiting q))
            ])
        | false ↦ λ t. h
      ] refl
    where
      weaker : (q : ℕ) (o : Option Request) → IsWaitingAt k.state.next_number q o → IsNearAt k.state.next_number q o
      weaker q None g = tt
      weaker q (Some r) g = ((let above = g.0 in omega arith), g.1, g.2)

  none_plain : (k : Plain) → IsPlain k → IsPlain (plain_start k.state)
  none_plain k h = record { state = h.state; waiting = λ q. subst (IsWaitingAt k.state.next_number q) (sym (get-empty nat_cmp q)) tt }

  pub turn_plain : (k to : Plain) (seen : Seen) (answer : Reply) → IsPlain k → AreRead (seen ∷ []) → Turn k seen to answer → IsPlain to
  turn_plain k to (Came number request) answer h read turn = subst IsPlain (sym turn.0) (after_delivery_plain k number request h read.0)
  turn_plain k to (Malformed fault) answer h read turn = subst IsPlain (sym turn.0) h
  turn_plain k to Prepare answer h read turn = prepared k.plan turn
    where
      prepared : (found : Option PlanParts) → Prepares k found to answer → IsPlain to
      prepared None g = subst IsPlain (sym g.2) (record { state = after_boot_valid spelled k.state h.state; waiting = h.waiting })
      prepared (Some plan) g = subst IsPlain (sym g.0) h
  turn_plain k to Hand answer h read turn = subst IsPlain (sym turn.0) (record { state = h.state; waiting = h.waiting })
  turn_plain k to Restart answer h read turn = subst IsPlain (sym turn.0) (none_plain k h)
