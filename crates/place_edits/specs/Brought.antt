-- Variables that a machine is to have, as far as they can be stored.
use Rattle.std.specs.Prelude.{◌≡◌, ◌≢◌, ◌⊎◌, ℕ, List, Contains}
use Rattle.std.specs.FinMap.{get}
use Rattle.uefi_vars.specs.Vars.{Variables}
use Rattle.messages.specs.declared.failure.Failure.{Failure}
use Rattle.messages.specs.declared.failure.Failure.TheVariants.{Memory}
use Rattle.boot_edits.specs.Restore.{IsRestored}
use Rattle.change_records.specs.Timeout.{or_timeout_of}
use Rattle.boot_journal.specs.Attributes.{with_attributes}
use Rattle.place_edits.specs.Takeable.{IsTaken}
use Rattle.place_edits.specs.declared.takeable.Takeable.{Takeable}

-- Each variable is as it is to be; one of these names, which no set can hold, may be as it is now.
abbrev pub IsHeld : List (List ℕ) → Variables → Variables → Variables → Type 0
IsHeld left_out now wanted held =
    (name : List ℕ) → (get held name ≡ get wanted name) ⊎ (Contains left_out name × (get held name ≡ get now name))

-- what a machine is to have of what is wanted, where these are now: as far as firmware takes it, and what no set can hold
-- stays
pub record IsBrought (left_out : List (List ℕ)) (now wanted : Variables) (brought : Takeable) : Type 0 where
  pub held : Variables
  pub kept : IsHeld left_out now wanted held
  pub taken : IsTaken now held brought

-- The boot manager's variables are those of the set, as far as these can be stored, with the attributes that they had. Timeout
-- stays if the set has none.
abbrev pub IsWritten : List (List ℕ) → Variables → Variables → Variables → Takeable → Type 0
IsWritten left_out set from to brought =
    IsBrought left_out from (or_timeout_of from (with_attributes from set)) brought × IsRestored brought.vars from to

-- it says something else than that memory was refused
abbrev pub IsNoMemory : Failure → Type 0
IsNoMemory failure = failure ≢ Memory

-- ---- for private functions

-- each variable is as it was, or it is of this name, and as it is now
abbrev pub IsKept : List ℕ → Variables → Variables → Variables → Type 0
IsKept kept now old new = (name : List ℕ) → (get new name ≡ get old name) ⊎ ((name ≡ kept) × (get new name ≡ get now name))
