-- Families of load options: the names of their variables differ in what they begin with (UEFI 2.10, 3.3).
use Rattle.std.specs.Prelude.{◌≡◌, ◌⊎◌, ℕ, ◌<◌, ◌^◌, List, ◌++◌, codes}
use Rattle.uefi_vars.specs.Name.{four_digits}
use Rattle.uefi_vars.specs.declared.family.EntryFamily.{EntryFamily}
use Rattle.uefi_vars.specs.declared.family.EntryFamily.TheVariants as family

-- what the names of a family's variables begin with
abbrev pub prefix_of : EntryFamily → List ℕ
prefix_of family.Boot = codes "Boot"
prefix_of family.Driver = codes "Driver"
prefix_of family.SysPrep = codes "SysPrep"

-- what follows that: the four digits of a number, or `Order`
abbrev pub IsTail : List ℕ → Type 0
IsTail tail = ((number : ℕ) × (number < 2 ^ 16) × (tail ≡ four_digits number)) ⊎ (tail ≡ codes "Order")

-- the name of an entry, or of the order, of a family, with this behind the family's front
abbrev pub IsNameIn : EntryFamily → List ℕ → List ℕ → Type 0
IsNameIn family name tail = (name ≡ prefix_of family ++ tail) × IsTail tail

-- the name in another family
abbrev pub IsNamedAs : EntryFamily → EntryFamily → List ℕ → List ℕ → Type 0
IsNamedAs family other name named = (tail : List ℕ) × IsNameIn family name tail × (named ≡ prefix_of other ++ tail)
