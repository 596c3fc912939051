-- A request that was sent leads from a state to a state, and so does a run of them.
use Rattle.std.proofs.Common.{◌≡◌, ℕ, zero, suc, ◌+◌, ◌-◌, ◌^◌, ◌<◌, ◌≤◌, Bool, true, false, cond, eqb, ltb, not, List, [], ◌∷◌, ◌++◌, length, drop, filter}
use Rattle.std.proofs.Common.{Option, Some, None, refl, sym, ap, subst, ◌∙◌, arith}
use Rattle.std.specs.Prelude.{IfSome, if◌then◌else◌}
use Rattle.std.specs.List.{AllByRecursion}
use Rattle.std.specs.Int.{w16, to_le_bytes}
use Rattle.std.specs.Cmp.{nat_cmp_total}
use Rattle.std.specs.FinMap.{get, insert, remove, get-remove}
use Rattle.std.proofs.lemmas.Bool.Decides.{nat_tests}
use Rattle.std.proofs.lemmas.List.{length-append, length-drop}
use Rattle.std.proofs.lemmas.List.Elements.{recursion_from_All, All-from_recursion, All-drop, All-filter}
use Rattle.uefi_path.specs.Row.{IsByte}
use Rattle.uefi_option.specs.LoadOption.{OptionParts, IsOption, SpellsOption, option_bytes}
use Rattle.uefi_vars.specs.Vars.{IsData}
use Rattle.uefi_vars.specs.Order.{order_max, IsEntryNumber, IsOrder}
use Rattle.uefi_vars.proofs.Bytes.{AllByRecursion-append}
use Rattle.uefi_path.proofs.TwoBytes.{units_length}
use Rattle.boot_requests.specs.declared.request.Request.{Request}
use Rattle.boot_requests.specs.declared.request.Request.TheVariants.{Add, Replace, Remove, Order, Next, AddFree, AddFirst, First}
use Rattle.boot_requests.specs.declared.outcome.Code.{Code}
use Rattle.boot_requests.specs.declared.outcome.Code.TheVariants.{Done}
use Rattle.boot_requests.specs.declared.outcome.Outcome.{Outcome}
use Rattle.boot_requests.specs.Limits.{kept_max, no_number, payload_max}
use Rattle.boot_requests.specs.Outcome.{IsOutcome}
use Rattle.boot_requests.specs.Request.{IsRequest, payload_of}
use Rattle.boot_requests.specs.Frame.{IsSent}
use Rattle.boot_requests.specs.State.{State, IsMark, IsState}
use Rattle.boot_requests.specs.Apply.{is_in, order_with, has_room, in_front, order_from, without, next_without, outcome_of, with_new_entry}
use Rattle.boot_requests.specs.Apply.{effect_if_done, effect_by, effect, kept_with, with_outcome}
use Rattle.boot_requests.specs.Apply.{after_request, after_boot}
use Rattle.boot_requests.specs.Seen.{Seen}
use Rattle.boot_requests.specs.Changes.{Change, Applies, Boots, after_changes, numbers_in, numbers_from}
use Rattle.boot_requests.specs.Run.{gap_at, history, state_at}
use Rattle.boot_requests.specs.Keeper.{AreRead}
use Rattle.boot_requests.proofs.WholeRuns.Numbers.{tie_test, get_inserted}
use Rattle.boot_requests.proofs.WholeRuns.Effects.{outcome_valid}
use Rattle.boot_requests.proofs.WholeRuns.NextNumbers.{effect_number, after_request_number}
use Rattle.boot_requests.proofs.WholeRuns.Histories.{AreSent, history_sent, history_numbers}
use Rattle.boot_requests.proofs.Variables.Stored.{IsEntryAt}
use Rattle.boot_requests.proofs.Variables.OrderLists.{left_fits, front_fits}
use Rattle.boot_requests.proofs.Variables.OutcomeBytes.{entry_of_outcome}

order_with_valid : (order : List ℕ) (entry : ℕ) → IsOrder order → IsEntryNumber entry → IsOrder (order_with order entry)
order_with_valid order entry h number =
    elim (is_in order entry) as (λ b. IsOrder (if b then order else if ltb (length order) order_max then order ++ entry ∷ [] else order)) [
      | true ↦ h
      | false ↦ elim (ltb (length order) order_max) as (λ b. ltb (length order) order_max ≡ b → IsOrder (if b then order ++ entry ∷ [] else order)) [
        | true ↦ λ t.
            let room : length order < order_max = grind (arith, nat_tests, t) in
            record { numbers = AllByRecursion-append IsEntryNumber order (entry ∷ []) h.numbers (number, tt); len = simp length-append (omega arith) }
        | false ↦ λ t. h
      ] refl
    ]

without_valid : (order : List ℕ) (entry : ℕ) → IsOrder order → AllByRecursion IsEntryNumber (without order entry)
without_valid order entry h =
    let others : ℕ → Bool = λ other. not (is_in (entry ∷ []) other) in
    recursion_from_All IsEntryNumber (filter others order) (All-filter others IsEntryNumber order (All-from_recursion IsEntryNumber order h.numbers))

order_from_valid : (order : List ℕ) (entry : ℕ) → IsOrder order → IsEntryNumber entry → IsOrder (order_from order entry)
order_from_valid order entry h number =
    elim (has_room order entry) as (λ b. has_room order entry ≡ b → IsOrder (if b then in_front (entry ∷ []) order else order)) [
      | true ↦ λ room. record { numbers = (number, without_valid order entry h); len = front_fits order entry room h.len }
      | false ↦ λ full. h
    ] refl

next_valid : (next : Option ℕ) (entry : ℕ) → IfSome next IsEntryNumber → IfSome (next_without next entry) IsEntryNumber
next_valid None entry h = tt
next_valid (Some next) entry h = elim (eqb next entry) as (λ b. IfSome (if b then None else Some next) IsEntryNumber) [ true ↦ tt | false ↦ h ]

-- a mark leads to one, with one more outcome
kept_valid : (kept : List Outcome) (outcome : Outcome) (count : ℕ) → count < no_number → IsMark count kept → IsOutcome outcome →
    IsMark (count + 1) (kept_with kept outcome)
kept_valid kept outcome count below h is =
    let all : List Outcome = kept ++ outcome ∷ [] in
    let one_more : length all ≡ length kept + 1 = simp length-append (omega arith) in
    record {
      four_bytes = let small : count + 1 < 2 ^ 32 = omega arith in small;
      least = let least = h.least in simp length-drop (omega (arith, one_more));
      most = let most = h.most in simp length-drop (omega (arith, one_more));
      outcomes = recursion_from_All IsOutcome (drop (length all - kept_max) all)
          (All-drop IsOutcome (length all - kept_max) all
          (All-from_recursion IsOutcome all (AllByRecursion-append IsOutcome kept (outcome ∷ []) h.outcomes (is, tt))));
    }

-- the spelling of an option is the data of an entry if a payload has room for it
module _ (spelled : (option : OptionParts) → IsOption option → (bytes : List ℕ) × SpellsOption bytes option × AllByRecursion IsByte bytes) where
  data_of : (option : OptionParts) → IsOption option → length (option_bytes option) ≤ payload_max → IsData (option_bytes option)
  data_of option valid len =
      let s = spelled option valid in
      record {
        some = λ none. let nothing : length (option_bytes option) ≡ 0 = ap length none in omega (arith, nothing);
        len = omega arith;
        bytes = subst (λ (bytes : List ℕ). AllByRecursion IsByte bytes) s.1.1 s.2;
      }

  stored_valid : (m : State) (entry : ℕ) (bytes : List ℕ) → IsState m → IsEntryNumber entry → IsData bytes → (q : ℕ) →
      IsEntryAt q (get (insert m.entries entry bytes) q)
  stored_valid m entry bytes h number valid q =
      subst (IsEntryAt q) (sym (get_inserted m.entries entry bytes q))
      (elim (eqb q entry) as (λ b. eqb q entry ≡ b → IsEntryAt q (cond b (Some bytes) (get m.entries q))) [
        | true ↦ λ t. let is : entry ≡ q = grind (arith, nat_tests, t) in (subst IsEntryNumber is number, valid)
        | false ↦ λ t. h.entries q
      ] refl)

  removed_valid : (m : State) (entry : ℕ) → IsState m → (q : ℕ) → IsEntryAt q (get (remove m.entries entry) q)
  removed_valid m entry h q =
      subst (IsEntryAt q) (sym (get-remove nat_cmp_total m.entries entry q ∙ ap (λ b. cond b None (get m.entries q)) (tie_test q entry)))
      (elim (eqb q entry) as (λ b. IsEntryAt q (cond b None (get m.entries q))) [ true ↦ tt | false ↦ h.entries q ])

  after_number : (entry : ℕ) (bytes : List ℕ) → length (to_le_bytes w16 entry ++ bytes) ≤ payload_max → length bytes ≤ payload_max
  after_number entry bytes len = omega (arith, length-append (to_le_bytes w16 entry) bytes)

  with_new_entry_valid : (m : State) (entry : ℕ) (option : OptionParts) (order : List ℕ) → IsState m → IsEntryNumber entry → IsOption option →
      length (option_bytes option) ≤ payload_max → IsOrder order → IsState (with_new_entry m entry option order)
  with_new_entry_valid m entry option order h number valid len fits =
      let entries = stored_valid m entry (option_bytes option) h number (data_of option valid len) in
      record { entries = entries; order = fits; next = h.next; mark = h.mark; others = h.others }

  -- the same of an order to which the number was appended, and of one in whose front it was put
  appended_valid : (m : State) (entry : ℕ) (option : OptionParts) → IsState m → IsEntryNumber entry → IsOption option →
      length (option_bytes option) ≤ payload_max → IsState (with_new_entry m entry option (order_with m.order entry))
  appended_valid m entry option h number valid len =
      with_new_entry_valid m entry option (order_with m.order entry) h number valid len (order_with_valid m.order entry h.order number)

  in_front_valid : (m : State) (entry : ℕ) (option : OptionParts) → IsState m → IsEntryNumber entry → IsOption option →
      length (option_bytes option) ≤ payload_max → IsState (with_new_entry m entry option (order_from m.order entry))
  in_front_valid m entry option h number valid len =
      with_new_entry_valid m entry option (order_from m.order entry) h number valid len (order_from_valid m.order entry h.order number)

  effect_if_done_valid : (m : State) (request : Request) (told : Option ℕ) → IsState m → IsRequest request → length (payload_of request) ≤ payload_max →
      IfSome told IsEntryNumber → IsState (effect_if_done m request told)
  effect_if_done_valid m (Add entry option) told h valid len is =
      appended_valid m entry option h valid.0 valid.1 (after_number entry (option_bytes option) len)
  effect_if_done_valid m (AddFree option) None h valid len is = h
  effect_if_done_valid m (AddFree option) (Some entry) h valid len is = appended_valid m entry option h is valid len
  effect_if_done_valid m (AddFirst option) None h valid len is = h
  effect_if_done_valid m (AddFirst option) (Some entry) h valid len is = in_front_valid m entry option h is valid len
  effect_if_done_valid m (First entry) told h valid len is =
      record { entries = h.entries; order = order_from_valid m.order entry h.order valid; next = h.next; mark = h.mark; others = h.others }
  effect_if_done_valid m (Replace entry option) told h valid len is =
      let entries = stored_valid m entry (option_bytes option) h valid.0 (data_of option valid.1 (after_number entry (option_bytes option) len)) in
      record { entries = entries; order = h.order; next = h.next; mark = h.mark; others = h.others }
  effect_if_done_valid m (Remove entry) told h valid len is = record {
    entries = removed_valid m entry h;
    order = record {
      numbers = without_valid m.order entry h.order;
      len = let most = h.order.len in omega (arith, left_fits (entry ∷ []) m.order);
    };
    next = next_valid m.boot_next entry h.next;
    mark = h.mark;
    others = h.others;
  }
  effect_if_done_valid m (Order numbers) told h valid len is =
      let all = units_length numbers in
      record { entries = h.entries; order = record { numbers = valid; len = omega arith }; next = h.next; mark = h.mark; others = h.others }
  effect_if_done_valid m (Next entry) told h valid len is =
      record { entries = h.entries; order = h.order; next = valid; mark = h.mark; others = h.others }

  valid_by : (m : State) (request : Request) (code : Code) (told : Option ℕ) → IsState m → IsRequest request → length (payload_of request) ≤ payload_max →
      IfSome told IsEntryNumber → IsState (effect_by m request code told)
  valid_by m request Done told h valid len is = effect_if_done_valid m request told h valid len is
  valid_by m request _ told h valid len is = h

  effect_valid : (m : State) (request : Request) (outcome : Outcome) → IsState m → IsRequest request → length (payload_of request) ≤ payload_max →
      IsOutcome outcome → IsState (effect m request outcome)
  effect_valid m request outcome h valid len is = valid_by m request outcome.code outcome.entry h valid len (entry_of_outcome outcome.code outcome.entry is)

  with_outcome_valid : (m : State) (outcome : Outcome) → m.next_number < no_number → IsState m → IsOutcome outcome → IsState (with_outcome m outcome)
  with_outcome_valid m outcome below h is =
      let mark = kept_valid m.kept outcome m.next_number below h.mark is in
      record { entries = h.entries; order = h.order; next = h.next; mark = mark; others = h.others }

  -- a request that was sent with the next number leads from a state to a state
  pub after_request_valid : (m : State) (request : Request) → IsState m → IsSent m.next_number request → IsState (after_request m request)
  after_request_valid m request h sent =
      let outcome = outcome_of m request in
      let below : (effect m request outcome).next_number < no_number = omega (arith, effect_number m request outcome, sent.1.below) in
      let is = outcome_valid m request in
      with_outcome_valid (effect m request outcome) outcome below (effect_valid m request outcome h sent.1.valid sent.1.len is) is

  pub after_boot_valid : (m : State) → IsState m → IsState (after_boot m)
  after_boot_valid m h = record { entries = h.entries; order = h.order; next = tt; mark = h.mark; others = h.others }

  pub after_changes_valid : (m : State) (changes : List Change) (steps : ℕ) → IsState m → AreSent changes →
      numbers_in changes ≡ numbers_from m.next_number steps → IsState (after_changes m changes)
  after_changes_valid m [] steps h sent numbers = h
  after_changes_valid m (Applies number request ∷ changes) zero h sent numbers = absurd (let clash = ap length numbers in omega arith)
  after_changes_valid m (Applies number request ∷ changes) (suc steps) h sent numbers =
      let at : number ≡ m.next_number = cc in
      let rest : numbers_in changes ≡ numbers_from (suc m.next_number) steps = cc in
      let next : suc m.next_number ≡ (after_request m request).next_number = omega (arith, after_request_number m request) in
      after_changes_valid (after_request m request) changes steps (after_request_valid m request h (subst (λ (n : ℕ). IsSent n request) at sent.0)) sent.1
      (rest ∙ ap (λ n. numbers_from n steps) next)
  after_changes_valid m (Boots ∷ changes) steps h sent numbers = after_changes_valid (after_boot m) changes steps (after_boot_valid m h) sent numbers

  -- a run of requests that were read leads to a state
  pub state_valid : (start : State) (run : List Seen) → IsState start → AreRead run → IsState (state_at start run)
  state_valid start run h read =
      after_changes_valid start (history start.next_number run) (gap_at start.next_number run - start.next_number) h (history_sent start.next_number run read)
      (history_numbers start.next_number run)
