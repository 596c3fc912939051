-- For private functions that edit variables: what an edit makes of the state that they stand for.
use Rattle.std.specs.Prelude.{◌≡◌, ℕ, List, Option, Some, None}
use Rattle.std.specs.FinMap.{insert, remove}
use Rattle.uefi_option.specs.LoadOption.{OptionParts, option_bytes}
use Rattle.uefi_vars.specs.Vars.{Variables}
use Rattle.uefi_vars.specs.NameChanges.{NameChanges, with_changes}
use Rattle.boot_requests.specs.declared.request.Request.{Request}
use Rattle.boot_requests.specs.declared.outcome.Code.TheVariants.{NoFree}
use Rattle.boot_requests.specs.declared.outcome.Outcome.{Outcome}
use Rattle.boot_requests.specs.Outcome.{without_entry as telling_none, added_at}
use Rattle.boot_requests.specs.State.{State, MarkParts}
use Rattle.boot_requests.specs.Apply.{free_outcome, outcome_of, effect, without, order_with, order_from, next_without}
use Rattle.boot_requests.specs.Keeper.{IsStateOf}

-- from the variables of a state to those of the state that is changed so
abbrev pub ChangesBy : Variables → Variables → (State → State) → Type 0
ChangesBy old new change = (m : State) → IsStateOf m old → IsStateOf (change m) new

-- with these changes added, variables of a state become those of the state that is changed so, whichever they are
abbrev pub GathersBy : NameChanges → NameChanges → (State → State) → Type 0
GathersBy old new change = (vars : Variables) → ChangesBy (with_changes vars old) (with_changes vars new) change

-- the request has this outcome, and its effect leads from the variables of a state to those of another
abbrev pub CarriesOut : Variables → Variables → Request → Outcome → Type 0
CarriesOut old new request outcome =
    (m : State) → IsStateOf m old → (outcome ≡ outcome_of m request) × IsStateOf (effect m request outcome) new

-- ---- changes

abbrev pub with_order : List ℕ → State → State
with_order order m = record m { order = order }

abbrev pub with_next : Option ℕ → State → State
with_next next m = record m { boot_next = next }

abbrev pub with_entry : ℕ → List ℕ → State → State
with_entry number bytes m = record m { entries = insert m.entries number bytes }

abbrev pub without_entry : ℕ → State → State
without_entry number m = record m { entries = remove m.entries number }

abbrev pub with_mark : MarkParts → State → State
with_mark mark m = record m { next_number = mark.next_number; kept = mark.kept }

-- the number after the order, in front of it, or out of it, and out of BootNext
abbrev pub with_last : ℕ → State → State
with_last number m = record m { order = order_with m.order number }

abbrev pub with_first : ℕ → State → State
with_first number m = record m { order = order_from m.order number }

abbrev pub without_number : ℕ → State → State
without_number number m = record m { order = without m.order number }

abbrev pub without_next : ℕ → State → State
without_next number m = record m { boot_next = next_without m.boot_next number }

-- The option is stored under the least number that none has, if it is this number, and nothing is stored if it is none.
abbrev pub StoresFree : Variables → Variables → OptionParts → Option ℕ → Type 0
StoresFree old new option None =
    (m : State) → IsStateOf m old → (free_outcome m ≡ telling_none NoFree) × IsStateOf m new
StoresFree old new option (Some number) =
    (m : State) → IsStateOf m old →
    (free_outcome m ≡ added_at number) × IsStateOf (with_entry number (option_bytes option) m) new
