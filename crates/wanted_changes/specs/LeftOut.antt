-- Names of variables (UEFI 2.10, 3.1.1), to tell which ones a change is of, and which are left out.
use Rattle.std.specs.Prelude.{◌≡◌, ◌^◌, ℕ, ◌<◌, List, [], ◌∷◌, Contains}
use Rattle.std.specs.FinMap as map
use Rattle.uefi_vars.specs.Name.{entry_text}
use Rattle.uefi_vars.specs.Vars.{Variables}

-- it is the name of one of these entries
abbrev pub IsOneOf : List ℕ → List ℕ → Type 0
IsOneOf entries name = (entry : ℕ) × Contains entries entry × (entry < 2 ^ 16) × (name ≡ entry_text entry)

-- the variables without those of these names
abbrev pub without_names : Variables → List (List ℕ) → Variables
without_names vars [] = vars
without_names vars (name ∷ names) = without_names (map.remove vars name) names
