-- What a journal tells.
use Rattle.std.specs.Prelude.{◌≡◌, ℕ, Bool, true, false, List, [], map, Option, Some, None, if◌then◌else◌}
use Rattle.uefi_vars.specs.BootChange.{ChangeParts, same_name}
use Rattle.boot_journal.specs.Changes.{taken_back, spent}

-- What is still to be done, and under which identity of the machine's start that began.
pub data PendingParts : Type 0 where
  -- these changes are to be made; this was BootKeepState before them
  Makes : Option (List ℕ) → List ChangeParts → List ℕ → PendingParts
  -- these changes are to be taken back
  TakesBack : List ChangeParts → List ℕ → PendingParts

-- BootKeepState, or that it isn't there, and what is still to be done
pub record JournalParts : Type 0 where
  pub state : Option (List ℕ)
  pub pending : Option PendingParts

-- nothing is to be done
abbrev pub idle : Option (List ℕ) → JournalParts
idle state = record { state = state; pending = None }

-- the journal of an update: this is BootKeepState after it and before it
abbrev pub begun : Option (List ℕ) → Option (List ℕ) → List ChangeParts → List ℕ → JournalParts
begun state former changes boot = record { state = state; pending = Some (Makes former changes boot) }

-- under this identity, of changes that began under another each that is of BootNext takes it out
abbrev pub due_by : List ℕ → List ℕ → List ChangeParts → List ChangeParts
due_by boot began changes = if same_name boot began then changes else map spent changes

-- the changes that are to be made under this identity
abbrev pub due : List ℕ → Option PendingParts → List ChangeParts
due boot None = []
due boot (Some (Makes former changes began)) = due_by boot began changes
due boot (Some (TakesBack changes began)) = due_by boot began (taken_back changes)

-- the journal by which changes that are being made are taken back instead
abbrev pub turned_by : Option (List ℕ) → Option PendingParts → JournalParts
turned_by state None = idle state
turned_by state (Some (Makes former changes began)) = record { state = former; pending = Some (TakesBack changes began) }
turned_by state (Some (TakesBack changes began)) = record { state = state; pending = Some (TakesBack changes began) }

abbrev pub turned : JournalParts → JournalParts
turned journal = turned_by journal.state journal.pending

-- whether changes are being made
abbrev pub is_making : Option PendingParts → Bool
is_making None = false
is_making (Some (Makes former changes began)) = true
is_making (Some (TakesBack changes began)) = false

-- the changes, whether they are made or taken back
abbrev pub changes_of : Option PendingParts → List ChangeParts
changes_of None = []
changes_of (Some (Makes former changes began)) = changes
changes_of (Some (TakesBack changes began)) = changes

-- the identity under which what is to be done began, or that nothing is to be done
abbrev pub began_under : Option PendingParts → Option (List ℕ)
began_under None = None
began_under (Some (Makes former changes began)) = Some began
began_under (Some (TakesBack changes began)) = Some began

-- no change is to be made or taken back, and BootKeepState is the same whichever of the two is done
abbrev pub ChangesNothing : JournalParts → Type 0
ChangesNothing journal = (changes_of journal.pending ≡ []) × ((turned journal).state ≡ journal.state)

-- What is to be done, if anything, began under another identity.
abbrev pub BeganUnderAnother : List ℕ → Option PendingParts → Type 0
BeganUnderAnother boot None = Unit {0}
BeganUnderAnother boot (Some (Makes former changes began)) = same_name boot began ≡ false
BeganUnderAnother boot (Some (TakesBack changes began)) = same_name boot began ≡ false
