-- For the private type of the window: the slots in which requests wait, and what waits in them; and what a keeper
-- holds.
use Rattle.std.specs.Prelude.{◌≡◌, ℕ, zero, suc, ◌+◌, ◌-◌, ◌%◌, ◌<◌, nat_lt, List, length, slice_index_or, Option, Some, None, IfSome}
use Rattle.std.specs.FinMap.{empty, insert, retain_keys}
use Rattle.uefi_vars.specs.Vars.{Variables}
use Rattle.boot_requests.specs.declared.request.Request.{Request}
use Rattle.boot_requests.specs.Limits.{width}
use Rattle.boot_requests.specs.Frame.{IsSent}
use Rattle.boot_requests.specs.State.{MarkParts}
use Rattle.boot_requests.specs.Window.{Requests}
use Rattle.boot_requests.specs.Keeper.{IsStateOf}
use Rattle.boot_requests.specs.StateOf.{state_of}

-- those of the requests that have numbers above this one
abbrev pub above : ℕ → Requests → Requests
above next_number requests = retain_keys requests (λ number. nat_lt next_number number)

-- how many numbers above the next one are taken
abbrev pub reach : ℕ
reach = width - 1

-- the slot in which a request of this number waits
abbrev pub place_of : ℕ → ℕ
place_of number = number % width

abbrev pub slot_at : List (Option Request) → ℕ → Option Request
slot_at slots place = slice_index_or slots place None

-- the requests with this one under the number, if it is one
abbrev pub with_slot : Requests → ℕ → Option Request → Requests
with_slot requests number None = requests
with_slot requests number (Some request) = insert requests number request

-- what waits under as many numbers above the next one
unfoldable pub waiting_in : ℕ → ℕ → List (Option Request) → Requests
waiting_in zero next_number slots = empty
waiting_in (suc count) next_number slots =
    with_slot (waiting_in count next_number slots) (next_number + suc count) (slot_at slots (place_of (next_number + suc count)))

-- what waits, if this is the next number
abbrev pub waiting_of : ℕ → List (Option Request) → Requests
waiting_of next_number slots = waiting_in reach next_number slots

-- There is a slot for each number that is taken, that of the next one is free, and what is in the others was read off
-- frames.
pub record IsWindow (next_number : ℕ) (slots : List (Option Request)) : Type 0 where
  pub len : length slots ≡ width
  pub free : slot_at slots (place_of next_number) ≡ None
  pub sent : (number : ℕ) → next_number < number → number < next_number + width → IfSome (slot_at slots (place_of number)) (IsSent number)

-- what a keeper holds: variables that stand for the state that is read off them, and the slots of its next number
pub record IsKeeper (vars : Variables) (mark : MarkParts) (slots : List (Option Request)) : Type 0 where
  pub stands : IsStateOf (state_of vars mark) vars
  pub waits : IsWindow mark.next_number slots
