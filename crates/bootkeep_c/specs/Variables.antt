-- Where the variables of a set are in its bytes, as C is told.
use Rattle.std.specs.Prelude.{◌≡◌, ℕ, ◌+◌, List, [], ◌∷◌, length}
use Rattle.std.specs.FinMap.{entries}
use Rattle.uefi_vars.specs.Vars.{Variables}
use Rattle.uefi_vars.specs.Set.{SpellsSet, magic, name_bytes, record_bytes}
use Rattle.bootkeep_c.specs.declared.variable.VariablePlaces.{VariablePlaces}

-- The places of a variable whose record is at this place of the set: its name after the byte of its length, and its data
-- after the four bytes of their length.
abbrev pub places_at : ℕ → List ℕ × List ℕ → VariablePlaces
places_at at variable = record {
  name = at + 1;
  name_len = length variable.0;
  «data» = at + length (name_bytes variable.0) + 4;
  data_len = length variable.1;
}

-- those of variables whose records follow one another from this place on
abbrev pub places_from : ℕ → List (List ℕ × List ℕ) → List VariablePlaces
places_from at [] = []
places_from at (variable ∷ others) = places_at at variable ∷ places_from (at + length (record_bytes variable)) others

-- the bytes are a set, and these are the places of its variables, in the order of their names
abbrev pub HasVariablesAt : List ℕ → List VariablePlaces → Type 0
HasVariablesAt set places =
    (vars : Variables) × SpellsSet set vars × (places ≡ places_from (length magic) (entries vars))
