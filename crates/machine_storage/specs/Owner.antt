-- Whose a journal is, and which one is taken for a machine's own.
use Rattle.std.specs.Prelude.{◌≡◌, ◌≢◌, ℕ, true, false, List, Option, Some, None, String}
use Rattle.std.specs.Global.{Global}
use Rattle.std.specs.List.{AllByRecursion}
use Rattle.std.specs.String.{string_bytes}
use Rattle.uefi_vars.specs.Vars.{Variables}
use Rattle.boot_journal.specs.JournalAttributes.{journal_kept}
use Rattle.boot_journal.specs.Journal.{JournalParts, idle}
use Rattle.boot_journal.specs.declared.journal_file.JournalFile.{JournalFile}
use Rattle.machine_storage.specs.declared.owner.Identity.{Identity}
use Rattle.machine_storage.specs.declared.owner.Names.{Names}
use Rattle.machine_storage.specs.declared.owner.Names.TheVariants as whom
use Rattle.machine_storage.specs.declared.owner.OwnJournal.{OwnJournal}
use Rattle.machine_storage.specs.declared.owner.Owner.{Owner}

-- it is another name
abbrev pub IsOther : List ℕ → String Global → Type 0
IsOther name other = string_bytes other ≢ name

-- whom this name names: the machine itself, the machine as earlier versions called it, or another one
abbrev pub IsNamedBy : Identity → List ℕ → Names → Type 0
IsNamedBy identity name whom.This = name ≡ identity.name
IsNamedBy identity name whom.Former = (name ≢ identity.name) × (¬ AllByRecursion (IsOther name) identity.former.items)
IsNamedBy identity name whom.Another = (name ≢ identity.name) × AllByRecursion (IsOther name) identity.former.items

-- another machine's journal is to be taken over, has nothing left to do, and it is known that this is another machine
pub record IsAdopted (owner : Owner) (journal : JournalParts) : Type 0 where
  pub asked : owner.words.now.adopt ≡ true
  pub idle : journal.pending ≡ None
  pub known : owner.identity.now.unread ≡ None

-- A journal that names the machine is as it was; one that has its former name, or was another one's, is to be replaced by
-- one that names it, and with another one's goes what was kept beside it.
abbrev pub IsTakenFrom : Owner → Names → JournalParts → OwnJournal → Type 0
IsTakenFrom owner whom.This journal own = (own.is_unnamed ≡ false) × (own.was_others ≡ false)
IsTakenFrom owner whom.Former journal own = (own.is_unnamed ≡ true) × (own.was_others ≡ false)
IsTakenFrom owner whom.Another journal own = IsAdopted owner journal × (own.is_unnamed ≡ true) × (own.was_others ≡ true)

-- the journal of a file that names a machine, or none: then its changes get the attributes that are there
abbrev pub IsTakenOf : Owner → Option (List ℕ) → JournalParts → Variables → OwnJournal → Type 0
IsTakenOf owner None journal there own =
    (own.journal ≡ journal_kept there journal) × (own.is_unnamed ≡ true) × (own.was_others ≡ true)
IsTakenOf owner (Some name) journal there own =
    (own.journal ≡ journal) × ((named : Names) × IsNamedBy owner.identity.now name named × IsTakenFrom owner named journal own)

-- the journal of a machine, of what was stored: a new one if nothing was
abbrev pub IsTaken : Owner → Option JournalFile → Variables → OwnJournal → Type 0
IsTaken owner None there own = (own.journal ≡ idle None) × (own.is_unnamed ≡ false) × (own.was_others ≡ false)
IsTaken owner (Some file) there own = IsTakenOf owner file.machine file.journal there own
