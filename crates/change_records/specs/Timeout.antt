-- Timeout, where variables or a record say nothing of it (UEFI 2.10, 3.3).
use Rattle.std.specs.Prelude.{◌||◌, ℕ, Bool, List, Option, Some, None, is_some, if◌then◌else◌}
use Rattle.std.specs.FinMap.{get, insert}
use Rattle.uefi_vars.specs.Name.{timeout_text}
use Rattle.uefi_vars.specs.Vars.{Variables}
use Rattle.change_records.specs.Record.{RecordParts}

abbrev pub has_timeout : Variables → Bool
has_timeout vars = is_some (get vars timeout_text)

abbrev pub put_timeout : Option (List ℕ) → Variables → Variables
put_timeout None vars = vars
put_timeout (Some timeout) vars = insert vars timeout_text timeout

-- the variables, with the Timeout that is there now if they have none
abbrev pub or_timeout_of : Variables → Variables → Variables
or_timeout_of now vars = if has_timeout vars then vars else put_timeout (get now timeout_text) vars

-- the record, with that Timeout before and after its change if it has none of either: the change left it alone
abbrev pub with_timeout_of : Variables → RecordParts → RecordParts
with_timeout_of now r =
    if has_timeout r.before || has_timeout r.after
    then r
    else record r { before = or_timeout_of now r.before; after = or_timeout_of now r.after }
