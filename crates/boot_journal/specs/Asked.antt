-- What storage was asked, and what it answered.
use Rattle.std.specs.Prelude.{◌++◌, Bool, List, Option}
use Rattle.std.specs.Option.{option_map}
use Rattle.uefi_vars.specs.BootChange.{ChangeParts}
use Rattle.boot_journal.specs.Journal.{JournalParts}

-- a call of storage, and whether it answered that it did that, or has it
pub data Ask : Type 0 where
  -- to make a change
  ToMake : ChangeParts → Bool → Ask
  -- whether it has made one
  HasMade : ChangeParts → Bool → Ask
  -- to replace the journal by this one
  ToReplace : JournalParts → Bool → Ask
  -- whether it has replaced it so
  HasReplaced : JournalParts → Bool → Ask

-- these calls and then those, if the first ones are known
abbrev pub and_then : Option (List Ask) → List Ask → Option (List Ask)
and_then asked more = option_map (λ asks. asks ++ more) asked
