-- What undoing a change brings back.
use Rattle.std.specs.Prelude.{◌≡◌, ◌≢◌, ◌⊎◌, None}
use Rattle.std.specs.FinMap.{get, remove}
use Rattle.uefi_vars.specs.Name.{next_text}
use Rattle.uefi_vars.specs.Vars.{Variables}
use Rattle.change_records.specs.Record.{RecordParts}

-- The BootNext that the change left isn't there any more, and the one before it isn't there again: a start may have used it.
abbrev pub IsNextGone : RecordParts → Variables → Type 0
IsNextGone change now =
    (get change.after next_text ≢ None) × (get now next_text ≢ get change.after next_text) × (get now next_text ≢ get change.before next_text)

-- what is to be there again: what was there before the change, but for a BootNext if one may have been used since
abbrev pub IsWanted : RecordParts → Variables → Variables → Type 0
IsWanted change now wanted =
    (IsNextGone change now × (wanted ≡ remove change.before next_text)) ⊎ ((IsNextGone change now → ⊥) × (wanted ≡ change.before))
