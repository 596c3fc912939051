-- Entries by their descriptions. A description is the bytes of its CHAR16 units, two for each, little-endian, without the zero
-- unit that closes it (UEFI 2.10, 3.1.3).
use Rattle.std.specs.Prelude.{◌≡◌, ℕ, List, Some}
use Rattle.uefi_path.specs.Units.{units_bytes}
use Rattle.uefi_option.specs.LoadOption.{OptionParts, SpellsOption}
use Rattle.uefi_vars.specs.Order.{IsEntryNumber}
use Rattle.uefi_vars.specs.Vars.{Variables, entry_of}

-- the bytes are a load option with this description
pub record HasDescription (bytes description : List ℕ) : Type 0 where
  pub option : OptionParts
  pub spelled : SpellsOption bytes option
  pub is : units_bytes option.description ≡ description

-- The entry of this number, with these bytes, is one. An entry that is no load option has no description, and so no profile
-- speaks of it.
pub record IsDescribed (vars : Variables) (description : List ℕ) (number : ℕ) (bytes : List ℕ) : Type 0 where
  pub is : IsEntryNumber number
  pub stored : entry_of vars number ≡ Some bytes
  pub has : HasDescription bytes description

-- the entry of this number has the description
abbrev pub IsNumberOf : Variables → List ℕ → ℕ → Type 0
IsNumberOf vars description number = (bytes : List ℕ) × IsDescribed vars description number bytes

-- no entry has the description
abbrev pub IsUnknown : Variables → List ℕ → Type 0
IsUnknown vars description = (number : ℕ) → IsNumberOf vars description number → ⊥

-- This entry has the description, and no other one has it. If several have it, it names none of them: which one is first in
-- BootOrder, or has the lowest number, changes by what others do, and a profile that is put there again and again is to mean
-- the same entry each time.
pub record IsNamed (vars : Variables) (description : List ℕ) (number : ℕ) : Type 0 where
  pub here : IsNumberOf vars description number
  pub alone : (other : ℕ) → IsNumberOf vars description other → other ≡ number

-- two entries have the description
pub record IsAmbiguous (vars : Variables) (description : List ℕ) : Type 0 where
  pub first : ℕ
  pub second : ℕ
  pub differ : first ≡ second → ⊥
  pub is_first : IsNumberOf vars description first
  pub is_second : IsNumberOf vars description second
