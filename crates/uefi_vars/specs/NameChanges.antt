-- What is to become of variables: under each name that is to change its new data, or that the variable is taken out.
use Rattle.std.specs.Prelude.{ℕ, List, [], ◌∷◌, Option, Some, None, IfSome}
use Rattle.std.specs.FinMap.{FinMap, entries, insert, remove}
use Rattle.uefi_vars.specs.Vars.{Variables, name_cmp, IsVariable}

-- from names to new data, or to none if the variable is taken out
abbrev pub NameChanges : Type 0
NameChanges = FinMap name_cmp (Option (List ℕ))

-- the variables with this data under the name, or without the name
abbrev pub with_data : Variables → List ℕ → Option (List ℕ) → Variables
with_data vars name None = remove vars name
with_data vars name (Some value) = insert vars name value

-- the variables after these changes, one after the other
abbrev pub after_each : Variables → List (List ℕ × Option (List ℕ)) → Variables
after_each vars [] = vars
after_each vars (change ∷ changes) = after_each (with_data vars change.0 change.1) changes

-- the variables after all changes
abbrev pub with_changes : Variables → NameChanges → Variables
with_changes vars changes = after_each vars (entries changes)

-- what is under a name then: what it is changed to, or else what was there before
abbrev pub or_before : Option (Option (List ℕ)) → Option (List ℕ) → Option (List ℕ)
or_before None before = before
or_before (Some now) before = now

-- new data is that of a variable of its name
abbrev pub IsChange : List ℕ × Option (List ℕ) → Type 0
IsChange change = IfSome change.1 (λ value. IsVariable (change.0, value))
