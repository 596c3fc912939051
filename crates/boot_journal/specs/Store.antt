-- What outlives a cut, and what a machine stands for.
use Rattle.std.specs.Prelude.{◌≡◌, ◌⊎◌, ℕ, List, take, Option, None}
use Rattle.std.specs.FinMap.{get}
use Rattle.uefi_vars.specs.Vars.{Variables}
use Rattle.uefi_vars.specs.NameChanges.{with_data}
use Rattle.uefi_vars.specs.BootChange.{ChangeParts, changes_from}
use Rattle.uefi_vars.specs.Name.{keep_text}
use Rattle.boot_journal.specs.Changes.{made}
use Rattle.boot_journal.specs.Journal.{JournalParts, idle, begun, due, turned}

-- the variables that firmware keeps, and the journal
pub record Store : Type 0 where
  pub variables : Variables
  pub journal : JournalParts

abbrev pub with_made : List ChangeParts → Store → Store
with_made changes s = record { variables = made changes s.variables; journal = s.journal }

abbrev pub with_journal : JournalParts → Store → Store
with_journal journal s = record { variables = s.variables; journal = journal }

-- firmware's variables with BootKeepState, which the journal keeps
abbrev pub with_state : Option (List ℕ) → Variables → Variables
with_state state vars = with_data vars keep_text state

-- the variables that are read: firmware's, and BootKeepState
abbrev pub seen : Store → Variables
seen s = with_state s.journal.state s.variables

-- nothing is to be done
abbrev pub IsIdle : Store → Type 0
IsIdle s = s.journal.pending ≡ None

-- What a machine stands for under this identity: the variables once what is to be done is done.
abbrev pub stands_for : List ℕ → Store → Variables
stands_for boot s = with_state s.journal.state (made (due boot s.journal.pending) s.variables)

-- what it stands for if changes that are being made are taken back instead
abbrev pub falls_back_to : List ℕ → Store → Variables
falls_back_to boot s = stands_for boot (with_journal (turned s.journal) s)

-- the one or the other
abbrev pub IsEither : Store → Store → Store → Type 0
IsEither old new c = (c ≡ old) ⊎ (c ≡ new)

-- the first variables, with the boot manager's variables and BootKeepState of the second
abbrev pub brought : Variables → Variables → Variables
brought from to = with_state (get to keep_text) (made (changes_from from to) from)

-- the journal of an update that leads from what is read to these variables
abbrev pub journal_to : List ℕ → Store → Variables → JournalParts
journal_to boot s to = begun (get to keep_text) s.journal.state (changes_from (seen s) to) boot

-- the store after all of that update
abbrev pub updated : Store → Variables → Store
updated s to = record { variables = made (changes_from (seen s) to) s.variables; journal = idle (get to keep_text) }

-- the store once some of the changes are made, from the first on
abbrev pub IsFrontStore : List ChangeParts → Store → Store → Type 0
IsFrontStore changes s c = (count : ℕ) × (c ≡ with_made (take count changes) s)

-- the new store stands for what the old one does, or for what an update of that to these variables leads to
abbrev pub IsBeforeOrAfter : List ℕ → Variables → Store → Store → Type 0
IsBeforeOrAfter boot to s c =
    (stands_for boot c ≡ stands_for boot s) ⊎ (stands_for boot c ≡ brought (stands_for boot s) to)

-- the new store stands for what the old one does, or for what that falls back to
abbrev pub IsSettledOrTakenBack : List ℕ → Store → Store → Type 0
IsSettledOrTakenBack boot s c = (stands_for boot c ≡ stands_for boot s) ⊎ (stands_for boot c ≡ falls_back_to boot s)
