-- The boot manager's variables among others, and how a change of them stands (UEFI 2.10, 3.3).
use Rattle.std.specs.Prelude.{◌≡◌, ◌≢◌, ◌⊎◌, ℕ, if◌then◌else◌, List, Option, Some, None}
use Rattle.std.specs.FinMap.{get, remove}
use Rattle.uefi_vars.specs.Name.{next_text}
use Rattle.uefi_vars.specs.Vars.{Variables}
use Rattle.uefi_vars.specs.BootChange.{is_boot_name}
use Rattle.change_records.specs.declared.stands.Standing.{Standing}
use Rattle.change_records.specs.declared.stands.Standing.TheVariants.{Unchanged, NotMade, Changed}
use Rattle.change_records.specs.Record.{RecordParts}

-- Under the names of the boot manager's variables it has what these have there, and under others nothing.
abbrev pub IsBootPart : Variables → Variables → Type 0
IsBootPart vars part = (name : List ℕ) → get part name ≡ (if is_boot_name name then get vars name else None)

-- without a BootNext, if this is none
abbrev pub with_next_of : Option (List ℕ) → Variables → Variables
with_next_of None vars = remove vars next_text
with_next_of (Some bytes) vars = vars

-- the second variables, without a BootNext if the first have none: what a start leaves of them that uses BootNext
abbrev pub as_used : Variables → Variables → Variables
as_used now vars = with_next_of (get now next_text) vars

-- what the boot manager's variables are, beside those before and after a change as a start may have left these
abbrev pub IsUsedStanding : RecordParts → Variables → Standing → Type 0
IsUsedStanding r part Unchanged = part ≡ as_used part r.after
IsUsedStanding r part NotMade = (part ≢ as_used part r.after) × (part ≡ as_used part r.before)
IsUsedStanding r part Changed = (part ≢ as_used part r.after) × (part ≢ as_used part r.before)

-- What the boot manager's variables are, beside those before and after a change: exactly these, or as a start may have left
-- them that only used BootNext up.
abbrev pub IsPartStanding : RecordParts → Variables → Standing → Type 0
IsPartStanding r part Unchanged =
    (part ≡ r.after) ⊎ ((part ≢ r.after) × (part ≢ r.before) × IsUsedStanding r part Unchanged)
IsPartStanding r part NotMade =
    ((part ≢ r.after) × (part ≡ r.before)) ⊎ ((part ≢ r.after) × (part ≢ r.before) × IsUsedStanding r part NotMade)
IsPartStanding r part Changed = (part ≢ r.after) × (part ≢ r.before) × IsUsedStanding r part Changed

-- what those among these are
pub record IsStanding (r : RecordParts) (now : Variables) (standing : Standing) : Type 0 where
  pub part : Variables
  pub boot : IsBootPart now part
  pub is : IsPartStanding r part standing

-- ---- for private functions

-- without the variable of this name, unless it is one of the boot manager's
abbrev pub without_other : Variables → List ℕ → Variables
without_other vars name = if is_boot_name name then vars else remove vars name
