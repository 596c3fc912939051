-- What requests and boots do to a state.
use Rattle.std.specs.Prelude.{ℕ, ◌+◌, ◌-◌, ◌==◌, ◌||◌, not, nat_lt, Bool, false, if◌then◌else◌, List, [], ◌∷◌, ◌++◌, length, drop, filter, Option, Some, None}
use Rattle.std.specs.List.{list_any, list_all}
use Rattle.std.specs.FinMap.{get, contains_key, keys, insert, remove}
use Rattle.uefi_option.specs.LoadOption.{OptionParts, option_bytes}
use Rattle.uefi_vars.specs.Order.{order_max}
use Rattle.uefi_vars.specs.Plan.{PlanParts, IsPlan}
use Rattle.boot_requests.specs.declared.request.Request.{Request}
use Rattle.boot_requests.specs.declared.request.Request.TheVariants.{Add, Replace, Remove, Order, Next, AddFree, AddFirst, First}
use Rattle.boot_requests.specs.declared.outcome.Code.{Code}
use Rattle.boot_requests.specs.declared.outcome.Code.TheVariants.{Done, Exists, Missing, OrderRepeats, OrderUnknown, NoFree}
use Rattle.boot_requests.specs.declared.outcome.Outcome.{Outcome}
use Rattle.boot_requests.specs.Limits.{kept_max, number_count}
use Rattle.boot_requests.specs.Outcome.{without_entry, added_at}
use Rattle.boot_requests.specs.State.{State}
use Rattle.boot_requests.specs.Window.{gap_from}

-- whether the number is in the list
abbrev pub is_in : List ℕ → ℕ → Bool
is_in numbers number = list_any (λ other. other == number) numbers

-- whether some number is in the list twice
abbrev pub repeats : List ℕ → Bool
repeats [] = false
repeats (number ∷ numbers) = is_in numbers number || repeats numbers

-- the order with the number after it, unless it is there or the order is full
abbrev pub order_with : List ℕ → ℕ → List ℕ
order_with order number =
    if is_in order number then order else if nat_lt (length order) order_max then order ++ number ∷ [] else order

-- the order without these numbers, wherever they are
abbrev pub without_all : List ℕ → List ℕ → List ℕ
without_all numbers order = filter (λ number. not (is_in numbers number)) order

-- the order without the number
abbrev pub without : List ℕ → ℕ → List ℕ
without order number = without_all (number ∷ []) order

-- these numbers, and behind them the others of the order, as they stood
abbrev pub in_front : List ℕ → List ℕ → List ℕ
in_front numbers order = numbers ++ without_all numbers order

-- whether the number can be in an order of these: they are fewer than an order has at most, or it is there
abbrev pub has_room : List ℕ → ℕ → Bool
has_room order number = nat_lt (length order) order_max || is_in order number

-- the order with the number in front and nowhere behind, if there is room for it
abbrev pub order_from : List ℕ → ℕ → List ℕ
order_from order number = if has_room order number then in_front (number ∷ []) order else order

-- no next entry if it was the one of this number
abbrev pub next_without : Option ℕ → ℕ → Option ℕ
next_without None entry = None
next_without (Some next) entry = if next == entry then None else Some next

-- whether an entry is stored under the number, whatever its bytes are
abbrev pub is_there : State → ℕ → Bool
is_there m entry = contains_key m.entries entry

-- the least number under which no entry is stored
abbrev pub free_number : State → ℕ
free_number m = gap_from 0 (keys m.entries)

-- what comes of a request that leaves the number of its entry open
abbrev pub free_outcome : State → Outcome
free_outcome m = if nat_lt (free_number m) number_count then added_at (free_number m) else without_entry NoFree

-- What comes of a request. An entry is told only if the request left its number open, and was carried out.
abbrev pub outcome_of : State → Request → Outcome
outcome_of m (Add entry option) = without_entry (if is_there m entry then Exists else Done)
outcome_of m (Replace entry option) = without_entry (if is_there m entry then Done else Missing)
outcome_of m (Remove entry) = without_entry (if is_there m entry then Done else Missing)
outcome_of m (Order numbers) =
    without_entry (if repeats numbers then OrderRepeats else if list_all (is_there m) numbers then Done else OrderUnknown)
outcome_of m (Next entry) = without_entry (if is_there m entry then Done else Missing)
outcome_of m (AddFree option) = free_outcome m
outcome_of m (AddFirst option) = free_outcome m
outcome_of m (First entry) = without_entry (if is_there m entry then Done else Missing)

-- the option is stored under the number, and the order is this one
abbrev pub with_new_entry : State → ℕ → OptionParts → List ℕ → State
with_new_entry m entry option order =
    record m { entries = insert m.entries entry (option_bytes option); order = order }

-- what a request that is done changes; if it left the number of its entry open, that is the one which its outcome tells
abbrev pub effect_if_done : State → Request → Option ℕ → State
effect_if_done m (Add entry option) told = with_new_entry m entry option (order_with m.order entry)
effect_if_done m (Replace entry option) told = record m { entries = insert m.entries entry (option_bytes option) }
effect_if_done m (Remove entry) told =
    record m { entries = remove m.entries entry; order = without m.order entry; boot_next = next_without m.boot_next entry }
effect_if_done m (Order numbers) told = record m { order = numbers }
effect_if_done m (Next entry) told = record m { boot_next = Some entry }
effect_if_done m (AddFree option) None = m
effect_if_done m (AddFree option) (Some entry) = with_new_entry m entry option (order_with m.order entry)
effect_if_done m (AddFirst option) None = m
effect_if_done m (AddFirst option) (Some entry) = with_new_entry m entry option (order_from m.order entry)
effect_if_done m (First entry) told = record m { order = order_from m.order entry }

-- the effect of a request with this code and entry: none if it isn't done
abbrev pub effect_by : State → Request → Code → Option ℕ → State
effect_by m request Done told = effect_if_done m request told
effect_by m request Exists told = m
effect_by m request Missing told = m
effect_by m request OrderRepeats told = m
effect_by m request OrderUnknown told = m
effect_by m request NoFree told = m

-- the effect of a request with its outcome
abbrev pub effect : State → Request → Outcome → State
effect m request outcome = effect_by m request outcome.code outcome.entry

-- what was stored of an entry: an option, or nothing if the entry was removed
pub record Stored : Type 0 where
  pub entry : ℕ
  pub option : Option OptionParts

abbrev pub stores : ℕ → Option OptionParts → Stored
stores entry option = record { entry = entry; option = option }

-- what a request stored whose outcome has this code and tells this entry
abbrev pub stored_as : Request → Code → Option ℕ → Option Stored
stored_as (Add entry option) Done told = Some (stores entry (Some option))
stored_as (Replace entry option) Done told = Some (stores entry (Some option))
stored_as (Remove entry) Done told = Some (stores entry None)
stored_as (AddFree option) Done (Some entry) = Some (stores entry (Some option))
stored_as (AddFirst option) Done (Some entry) = Some (stores entry (Some option))
stored_as _ _ _ = None

-- what a request that has this outcome stored, if it stored or removed an entry
abbrev pub stored_by : Request → Outcome → Option Stored
stored_by request outcome = stored_as request outcome.code outcome.entry

-- the outcomes with one more after them, of which the last ones are kept
abbrev pub kept_with : List Outcome → Outcome → List Outcome
kept_with kept outcome = let all = kept ++ outcome ∷ [] in drop (length all - kept_max) all

-- the request's number is used up, and its outcome is kept
abbrev pub with_outcome : State → Outcome → State
with_outcome m outcome = record m { next_number = m.next_number + 1; kept = kept_with m.kept outcome }

-- the state after a request
abbrev pub after_request : State → Request → State
after_request m request = let outcome = outcome_of m request in with_outcome (effect m request outcome) outcome

-- the state after BootNext is deleted for a boot (3.3)
abbrev pub after_boot : State → State
after_boot m = record m { boot_next = None }

-- the plan of such a boot: what it tries, of the state before
abbrev pub HasPlanOf : State → PlanParts → Type 0
HasPlanOf m plan = IsPlan (get m.entries) m.order m.boot_next plan
