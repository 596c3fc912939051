-- The changes from one set to another, as the numbers that C is told.
use Rattle.std.specs.Prelude.{◌≡◌, ◌⊎◌, ℕ, ◌^◌, ◌<◌, Bool, true, false, List, Option, Some, None}
use Rattle.uefi_text.specs.Bytes.{Each}
use Rattle.uefi_vars.specs.Name.{entry_text, order_text, next_text, timeout_text}
use Rattle.uefi_vars.specs.Vars.{Variables}
use Rattle.uefi_vars.specs.Set.{SpellsSet}
use Rattle.uefi_vars.specs.BootChange.{ChangeParts, is_boot_name, changes_from}
use Rattle.bootkeep_c.specs.declared.change.ChangeNumbers.{ChangeNumbers}
use Rattle.bootkeep_c.specs.declared.failure.Failure.{Failure}
use Rattle.bootkeep_c.specs.Sets.{IsSetFailure}

-- the number stands for the variable of this name: an entry's own number, or that of BootOrder, of BootNext
-- or of Timeout
abbrev pub StandsForName : ℕ → List ℕ → Type 0
StandsForName number name =
    ((number < 2 ^ 16) × (name ≡ entry_text number))
    ⊎ (((number ≡ 0x10001) × (name ≡ order_text))
    ⊎ (((number ≡ 0x10002) × (name ≡ next_text)) ⊎ ((number ≡ 0x10003) × (name ≡ timeout_text))))

-- the number for a variable that is new, one that has other data, and one that is taken out
abbrev pub change_number : Option (List ℕ) → Option (List ℕ) → ℕ
change_number None after = 1
change_number (Some _) (Some _) = 2
change_number (Some _) None = 3

-- what stands for the variable of an entry's number, if it is one, or of BootOrder, or of BootNext, or otherwise of Timeout
abbrev pub variable_of : Option ℕ → Bool → Bool → ℕ
variable_of (Some number) is_order is_next = number
variable_of None true is_next = 0x10001
variable_of None false true = 0x10002
variable_of None false false = 0x10003

-- the numbers tell the change
pub record TellsChange (change : ChangeParts) (told : ChangeNumbers) : Type 0 where
  pub variable : StandsForName told.variable change.name
  pub kind : told.kind ≡ change_number change.before change.after

-- the same of a change of a variable of the boot manager
abbrev pub TellsIfBoot : ChangeParts → ChangeNumbers → Type 0
TellsIfBoot change told = is_boot_name change.name ≡ true → TellsChange change told

-- both are sets, and these are the changes from the one to the other, in the order in which they are to be made
abbrev pub AreChangesBetween : List ℕ → List ℕ → List ChangeNumbers → Type 0
AreChangesBetween first second told =
    (from : Variables) × (to : Variables) × SpellsSet first from × SpellsSet second to × Each TellsChange (changes_from from to) told

-- the one isn't a set, or it is and the other isn't
abbrev pub IsPairFailure : List ℕ → List ℕ → Failure → Type 0
IsPairFailure first second failed =
    IsSetFailure first failed ⊎ ((from : Variables) × SpellsSet first from × IsSetFailure second failed)
