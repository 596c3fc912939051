-- What a request stored that is answered Applied is there, unless one that follows it changes that.
use Rattle.std.proofs.Common.{◌≡◌, ◌≢◌, ℕ, zero, suc, ◌+◌, ◌-◌, ◌<◌, ◌≤◌, true, false, cond, eqb, List, ◌∷◌, Option, Some, None, IfSome, refl, sym, ap, subst}
use Rattle.std.proofs.Common.{◌∙◌, arith}
use Rattle.std.specs.Prelude.{is_some}
use Rattle.std.specs.Option.{option_map}
use Rattle.std.specs.FinMap.{get, contains_key, insert}
use Rattle.std.proofs.lemmas.Bool.{false_from_ne_true}
use Rattle.std.proofs.lemmas.Bool.Decides.{nat_tests}
use Rattle.std.proofs.lemmas.Option.{none-some}
use Rattle.uefi_option.specs.LoadOption.{OptionParts, IsOption, option_bytes}
use Rattle.boot_requests.specs.declared.request.Request.{Request}
use Rattle.boot_requests.specs.declared.outcome.Outcome.{Outcome}
use Rattle.boot_requests.specs.declared.reply.Reply.TheVariants as reply
use Rattle.boot_requests.specs.Request.{IsRequest}
use Rattle.boot_requests.specs.State.{State}
use Rattle.boot_requests.specs.Apply.{outcome_of, effect, Stored, stores, stored_by, after_request}
use Rattle.boot_requests.specs.Seen.{Came}
use Rattle.boot_requests.specs.Window.{Requests, gap_of}
use Rattle.boot_requests.specs.Changes.{Applies, changes_between, after_changes}
use Rattle.boot_requests.specs.Answer.{IsReplyTo, again, kept_outcome}
use Rattle.boot_requests.specs.Turn.{Plain, after_delivery, Turn}
use Rattle.boot_requests.specs.Keeper.{IsStored, LeavesAlone, IsUntouched}
use Rattle.boot_requests.proofs.WholeRuns.Effects.{stands_after, entry_after, IsValid, stored_valid}
use Rattle.boot_requests.proofs.WholeRuns.Gaps.{gap_is}
use Rattle.boot_requests.proofs.WholeRuns.Deliveries.{no_changes, first_change}
use Rattle.boot_requests.proofs.WholeRuns.NextNumbers.{some_of}
use Rattle.boot_requests.proofs.Variables.Stored.{request_here, request_apart}
use Rattle.boot_requests.proofs.Turn.Fills.{settled_state_number}
use Rattle.boot_requests.proofs.Turn.Steps.{moved_to}
use Rattle.boot_requests.proofs.WholeRuns.Told.{by_answer}

not_again : (o : Option Outcome) (outcome : Outcome) (after : ℕ) → reply.Applied outcome after ≡ again o → ⊥
not_again None outcome after e = cc
not_again (Some other) outcome after e = cc

-- a request that is answered so had the next number, none waited under it, and this is its outcome
applied_next : (m : State) (requests : Requests) (gap after number next : ℕ) (request : Request) (outcome : Outcome) →
    IsReplyTo m requests gap after number request (reply.Applied outcome next) →
    (number ≡ gap) × (get requests number ≡ None) × (outcome_of m request ≡ outcome) × (next ≡ after)
applied_next m requests gap after number next request outcome =
    by_answer m requests gap after number request (reply.Applied outcome next)
    ((number ≡ gap) × (get requests number ≡ None) × (outcome_of m request ≡ outcome) × (next ≡ after))
    (λ h. absurd (not_again (kept_outcome m number) outcome next h)) (λ h. absurd cc)
    (λ none here h. let same : outcome_of m request ≡ outcome = cc in let last : next ≡ after = cc in (here, none, same, last)) (λ h. absurd cc)
    (λ h. absurd cc)

-- what a request stored of an entry is there
stands_here : (m : State) (request : Request) (outcome : Outcome) (entry : ℕ) (option : Option OptionParts) → outcome_of m request ≡ outcome →
    stored_by request outcome ≡ Some (stores entry option) → get (after_request m request).entries entry ≡ option_map option_bytes option
stands_here m request outcome entry option is stored =
    let here : eqb entry entry ≡ true = grind (arith, nat_tests) in
    ap (λ (o : Outcome). get (effect m request o).entries entry) is ∙ entry_after m request outcome entry
    ∙ ap (λ (s : Option Stored). stands_after s entry (get m.entries entry)) stored
    ∙ ap (λ b. cond b (option_map option_bytes option) (get m.entries entry)) here

-- ---- requests that follow

stands_apart : (stored : Option Stored) (entry : ℕ) (now : Option (List ℕ)) → IfSome stored (λ s. s.entry ≢ entry) → stands_after stored entry now ≡ now
stands_apart None entry now apart = refl
stands_apart (Some stored) entry now apart =
    let other : eqb entry stored.entry ≡ false = false_from_ne_true _ (λ t. apart (grind (arith, nat_tests, t))) in
    ap (λ b. cond b (option_map option_bytes stored.option) now) other

-- an entry that is stored stays through a request that leaves it alone
entry_kept : (m : State) (request : Request) (entry : ℕ) (bytes : List ℕ) → LeavesAlone request entry → get m.entries entry ≡ Some bytes →
    get (after_request m request).entries entry ≡ Some bytes
entry_kept m request entry bytes alone held =
    let outcome = outcome_of m request in
    entry_after m request outcome entry ∙ stands_apart (stored_by request outcome) entry (get m.entries entry) (alone m (ap is_some held)) ∙ held

-- the request, if there is one, leaves the entry alone
abbrev IsAlone : ℕ → Option Request → Type 0
IsAlone entry found = IfSome found (λ request. LeavesAlone request entry)

-- and so it does through those that follow each other without a gap
entry_stays : (steps from to : ℕ) (m : State) (requests : Requests) (entry : ℕ) (bytes : List ℕ) → from + steps ≡ to →
    ((q : ℕ) → from ≤ q → q < to → contains_key requests q ≡ true) →
    ((q : ℕ) → from ≤ q → q < to → IsAlone entry (get requests q)) →
    get m.entries entry ≡ Some bytes → get (after_changes m (changes_between from to requests)).entries entry ≡ Some bytes
entry_stays zero from to m requests entry bytes is filled off held =
    ap (λ changes. get (after_changes m changes).entries entry) (no_changes from to requests (omega arith)) ∙ held
entry_stays (suc steps) from to m requests entry bytes is filled off held =
    let first = some_of (get requests from) (filled from (omega arith) (omega arith)) in
    let alone : LeavesAlone first.0 entry = subst (IsAlone entry) first.1 (off from (omega arith) (omega arith)) in
    ap (λ changes. get (after_changes m changes).entries entry) (first_change from to requests first.0 first.1 (omega arith))
    ∙ entry_stays steps (suc from) to (after_request m first.0) requests entry bytes (omega arith) (λ q l below. filled q (omega arith) below)
    (λ q l below. off q (omega arith) below)
    (entry_kept m first.0 entry bytes alone held)

module _ (m : State) (waiting : Requests) (request : Request) (none : get waiting m.next_number ≡ None) where
  abbrev joined : Requests
  joined = insert waiting m.next_number request

  abbrev after : ℕ
  after = gap_of m.next_number joined

  beyond : m.next_number < after
  beyond =
      less (gap_is m.next_number joined).from
      (λ same. none-some request (sym (gap_is m.next_number joined).free ∙ ap (get joined) (sym same) ∙ request_here waiting m.next_number request))
    where
      less : m.next_number ≤ after → (m.next_number ≢ after) → m.next_number < after
      less l apart = omega arith

  opened : changes_between m.next_number after joined ≡ Applies m.next_number request ∷ changes_between (suc m.next_number) after joined
  opened = first_change m.next_number after joined request (request_here waiting m.next_number request) beyond

  -- what the request stored is there after those that follow it
  kept_stored : (entry : ℕ) (bytes : List ℕ) → IsUntouched waiting m.next_number after entry → get (after_request m request).entries entry ≡ Some bytes →
      get (after_changes m (changes_between m.next_number after joined)).entries entry ≡ Some bytes
  kept_stored entry bytes untouched held =
      ap (λ changes. get (after_changes m changes).entries entry) opened
      ∙ entry_stays (after - suc m.next_number) (suc m.next_number) after (after_request m request) joined entry bytes (omega (arith, beyond))
      (λ q l below. (gap_is m.next_number joined).filled q (omega arith) below)
      (λ q l below.
      subst (IsAlone entry) (sym (request_apart waiting m.next_number request q (λ e. omega (arith, e, l)))) (untouched q (omega arith) below)) held

pub asked : (k to : Plain) (number next entry : ℕ) (request : Request) (outcome : Outcome) (option : OptionParts) → IsRequest request →
    stored_by request outcome ≡ Some (stores entry (Some option)) → IsUntouched k.waiting number next entry →
    Turn k (Came number request) to (reply.Applied outcome next) → IsStored (Some option) (get to.state.entries entry)
asked k to number next entry request outcome option valid stored untouched turn =
    let told = applied_next k.state k.waiting k.state.next_number (after_delivery k number request).state.next_number number next request outcome turn.1 in
    let none : get k.waiting k.state.next_number ≡ None = subst (λ (n : ℕ). get k.waiting n ≡ None) told.0 told.1 in
    let joined : Requests = insert k.waiting k.state.next_number request in
    let moved = moved_to k number request told.0 none in
    let after = told.3 ∙ ap (λ (p : Plain). p.state.next_number) moved ∙ settled_state_number k.state joined in
    let between : IsUntouched k.waiting k.state.next_number (gap_of k.state.next_number joined) entry =
    rw (told.0, after) at untouched in
    let is_option : IsOption option = subst IsValid stored (stored_valid request outcome valid) in (
      option_bytes option,
      ap (λ (p : Plain). get p.state.entries entry) (turn.0 ∙ moved)
          ∙ kept_stored k.state k.waiting request none entry (option_bytes option) between
          (stands_here k.state request outcome entry (Some option) told.2 stored),
      (is_option, refl),
    )
