-- The state that variables stand for, and the variables that stand for a state.
use Rattle.std.specs.Prelude.{ℕ, zero, suc, List, [], Option, Some, None, ◌^◌}
use Rattle.std.specs.Ordering.{nat_cmp}
use Rattle.std.specs.Int.{w16, from_le_bytes}
use Rattle.std.specs.FinMap.{FinMap, empty, get, insert}
use Rattle.uefi_vars.specs.Name.{entry_text, order_text, next_text, keep_text}
use Rattle.uefi_vars.specs.Vars.{Variables, entry_of}
use Rattle.uefi_vars.specs.NameChanges.{with_data}
use Rattle.uefi_vars.specs.Order.{stored_order, stored_next}
use Rattle.uefi_path.specs.Units.{units_of}
use Rattle.uefi_vars.specs.Plan.{PlanParts}
use Rattle.boot_requests.specs.State.{State, MarkParts, stored_mark}
use Rattle.boot_requests.specs.Window.{Requests}
use Rattle.boot_requests.specs.Turn.{Plain}

-- entries by their numbers
abbrev pub Entries : Type 0
Entries = FinMap nat_cmp (List ℕ)

-- the entries with this under the number, if it is something
abbrev pub with_entry : Entries → ℕ → Option (List ℕ) → Entries
with_entry entries number None = entries
with_entry entries number (Some bytes) = insert entries number bytes

-- ---- of variables

-- the entries with numbers below the limit
unfoldable pub entries_below : ℕ → Variables → Entries
entries_below zero vars = empty
entries_below (suc number) vars = with_entry (entries_below number vars) number (entry_of vars number)

-- the variables without those entries, and without those that stand for the rest of a state
unfoldable pub others_below : ℕ → Variables → Variables
others_below zero vars = with_data (with_data (with_data vars order_text None) next_text None) keep_text None
others_below (suc number) vars = with_data (others_below number vars) (entry_text number) None

abbrev pub order_in : Option (List ℕ) → List ℕ
order_in None = []
order_in (Some bytes) = units_of bytes

abbrev pub next_in : Option (List ℕ) → Option ℕ
next_in None = None
next_in (Some bytes) = Some (from_le_bytes w16 bytes)

-- the state of the variables, with this next number and these outcomes
abbrev pub state_of : Variables → MarkParts → State
state_of vars mark = record {
  entries = entries_below (2 ^ 16) vars;
  order = order_in (get vars order_text);
  boot_next = next_in (get vars next_text);
  next_number = mark.next_number;
  kept = mark.kept;
  others = others_below (2 ^ 16) vars;
}

-- the plain state of these
abbrev pub plain_of : State → Requests → Option PlanParts → Plain
plain_of m waiting plan = record { state = m; waiting = waiting; plan = plan }

-- ---- of a state

-- the variables with the entries below the limit
unfoldable pub with_entries : ℕ → Entries → Variables → Variables
with_entries zero entries vars = vars
with_entries (suc number) entries vars =
    with_data (with_entries number entries vars) (entry_text number) (get entries number)

-- the image of the state
abbrev pub image_of : State → Variables
image_of m =
    let entries = with_entries (2 ^ 16) m.entries m.others in
    let order = with_data entries order_text (stored_order m.order) in
    let next = with_data order next_text (stored_next m.boot_next) in
    with_data next keep_text (stored_mark m.next_number m.kept)
