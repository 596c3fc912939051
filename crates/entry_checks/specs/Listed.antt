-- The order in which entries are told.
use Rattle.std.specs.Prelude.{ℕ, List, [], ◌∷◌, ◌++◌, Option, Some, None}
use Rattle.entry_checks.specs.Numbers.{distinct}

abbrev pub first_of : Option ℕ → List ℕ
first_of None = []
first_of (Some number) = number ∷ []

-- each once: BootNext's entry, the normal ones of BootOrder, and then these
abbrev pub listed_of : Option ℕ → List ℕ → List ℕ → List ℕ
listed_of next normal entries = distinct ((first_of next ++ normal) ++ entries)
