-- The variables of a machine, as one finite map from names to data.
use Rattle.std.specs.Prelude.{◌≢◌, ℕ, ◌≤◌, List, [], length, Option, IfSome}
use Rattle.std.specs.List.{AllByRecursion}
use Rattle.std.specs.declared.cmp.Ordering.{Ordering}
use Rattle.std.specs.Ordering.{nat_cmp}
use Rattle.std.specs.Cmp.Lexicographic.{slice_cmp}
use Rattle.std.specs.FinMap.{FinMap, get}
use Rattle.uefi_path.specs.Row.{IsByte}
use Rattle.uefi_vars.specs.Name.{IsName, entry_text}

-- names are in the order of their bytes
abbrev pub name_cmp : List ℕ → List ℕ → Ordering
name_cmp = slice_cmp nat_cmp

-- From names to data. Two such maps are equal exactly if they have the same data under every name.
abbrev pub Variables : Type 0
Variables = FinMap name_cmp (List ℕ)

-- the most bytes that data has
abbrev pub data_max : ℕ
data_max = 1048576

-- 1 to 1,048,576 bytes: a variable without data is deleted, and not stored
pub record IsData (value : List ℕ) : Type 0 where
  pub some : value ≢ []
  pub len : length value ≤ data_max
  pub bytes : AllByRecursion IsByte value

-- a name with its data
abbrev pub IsVariable : List ℕ × List ℕ → Type 0
IsVariable variable = IsName variable.0 × IsData variable.1

-- what is stored under a name is a variable
abbrev pub IsVars : Variables → Type 0
IsVars vars = (name : List ℕ) → IfSome (get vars name) (λ value. IsVariable (name, value))

-- what is stored under Boot####, by number
abbrev pub entry_of : Variables → ℕ → Option (List ℕ)
entry_of vars number = get vars (entry_text number)
