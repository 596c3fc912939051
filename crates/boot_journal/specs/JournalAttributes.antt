-- The journal of a file of version 1, whose changes are of data alone, with attributes.
use Rattle.std.specs.Prelude.{ℕ, ◌+◌, ◌≤◌, List, map, length, Option, IfSome}
use Rattle.std.specs.List.{AllByRecursion}
use Rattle.std.specs.Option.{option_map}
use Rattle.uefi_vars.specs.Vars.{Variables, data_max}
use Rattle.uefi_vars.specs.BootChange.{ChangeParts}
use Rattle.boot_journal.specs.declared.attributes.AttributesFault.{AttributesFault}
use Rattle.boot_journal.specs.declared.attributes.AttributesFault.TheVariants.{NoData, TooLong, OutOfMemory}
use Rattle.uefi_vars.specs.Attributes.{attributes_len}
use Rattle.boot_journal.specs.Attributes.{kept_with}
use Rattle.boot_journal.specs.Journal.{JournalParts, PendingParts, Makes, TakesBack, changes_of}

-- what is kept of data that may be there: with the attributes of what is there under this name
abbrev pub value_kept : Variables → List ℕ → Option (List ℕ) → Option (List ℕ)
value_kept there name value = option_map (kept_with there name) value

-- the change of what is kept
abbrev pub change_kept : Variables → ChangeParts → ChangeParts
change_kept there change = record {
  name = change.name;
  before = value_kept there change.name change.before;
  after = value_kept there change.name change.after;
}

-- what is still to be done, by changes of what is kept
abbrev pub pending_kept : Variables → PendingParts → PendingParts
pending_kept there (Makes former changes boot) = Makes former (map (change_kept there) changes) boot
pending_kept there (TakesBack changes boot) = TakesBack (map (change_kept there) changes) boot

-- the journal with changes of what is kept; BootKeepState has no attributes
abbrev pub journal_kept : Variables → JournalParts → JournalParts
journal_kept there journal = record { state = journal.state; pending = option_map (pending_kept there) journal.pending }

-- a variable can hold the data with attributes before it
abbrev pub HasRoom : List ℕ → Type 0
HasRoom value = attributes_len + length value ≤ data_max

-- variables can hold what the change has before and after
abbrev pub ChangeHasRoom : ChangeParts → Type 0
ChangeHasRoom change = IfSome change.before HasRoom × IfSome change.after HasRoom

-- why attributes aren't put on these changes
abbrev pub IsFaultOfChanges : List ChangeParts → AttributesFault → Type 0
IsFaultOfChanges changes NoData = ⊥
IsFaultOfChanges changes TooLong = ¬ AllByRecursion ChangeHasRoom changes
IsFaultOfChanges changes OutOfMemory = Unit {0}

-- why they aren't put on those of a journal
abbrev pub IsFaultOfJournal : JournalParts → AttributesFault → Type 0
IsFaultOfJournal journal f = IsFaultOfChanges (changes_of journal.pending) f

-- for private functions: why they aren't put on this data
abbrev pub IsFaultOfData : Option (List ℕ) → AttributesFault → Type 0
IsFaultOfData value NoData = ⊥
IsFaultOfData value TooLong = ¬ IfSome value HasRoom
IsFaultOfData value OutOfMemory = Unit {0}
