-- The name of a node that is nearest to another text.
use Rattle.std.specs.Prelude.{ℕ, ◌+◌, ◌/◌, List, [], ◌∷◌, length, map, max, nat_eq, nat_lt, Option, None, Some, if◌then◌else◌}
use Rattle.std.specs.Option.{option_map}
use Rattle.std.specs.Char.{to_ascii_lowercase}
use Rattle.strsim.specs.Edits.{levenshtein_row}
use Rattle.uefi_names.specs.declared.nearest.Near.{Near}
use Rattle.uefi_names.specs.declared.table.NodeTable.{NodeTable}
use Rattle.uefi_names.specs.declared.table.NodeGroup.{NodeGroup}
use Rattle.uefi_names.specs.declared.table.NodeRow.{NodeRow}
use Rattle.uefi_names.specs.Reading.{profile_names}

abbrev pub lower : List ℕ → List ℕ
lower text = map to_ascii_lowercase text

-- the fewest letters that are put in, taken out or exchanged, whatever their case, to make the name of the text
abbrev pub edits_between : List ℕ → List ℕ → ℕ
edits_between text name = levenshtein_row nat_eq (lower text) (lower name) (length (lower name))

-- a name, if there is one yet, and the edits that lead to it
pub record Nearest : Type 0 where
  pub name : Option (List ℕ)
  pub edits : ℕ

abbrev pub near_of : Near → Nearest
near_of near = record { name = option_map (λ name. name.now) near.name; edits = near.edits }

-- a name takes the place of another one only if fewer edits lead to it
abbrev pub nearer : List ℕ → Nearest → List ℕ → Nearest
nearer text near name =
    if nat_lt (edits_between text name) near.edits
    then record { name = Some name; edits = edits_between text name }
    else near

abbrev pub nearest_of : List ℕ → Nearest → List (List ℕ) → Nearest
nearest_of text near [] = near
nearest_of text near (name ∷ names) = nearest_of text (nearer text near name) names

abbrev pub nearest_of_rows : List ℕ → Nearest → List NodeRow → Nearest
nearest_of_rows text near [] = near
nearest_of_rows text near (row ∷ rows) =
    nearest_of_rows text (nearest_of text near (map (λ form. form.name.now) row.forms.now)) rows

abbrev pub nearest_of_groups : List ℕ → Nearest → List NodeGroup → Nearest
nearest_of_groups text near [] = near
nearest_of_groups text near (group ∷ groups) =
    nearest_of_groups text (nearest_of_rows text near group.rows.now) groups

-- no name yet, and more edits than may lead to one: a third of the letters may be edited, or one
abbrev pub none_near : List ℕ → Nearest
none_near text = record { name = None; edits = max (length text) 3 / 3 + 1 }

-- the first of the names to which the fewest edits lead from the text
abbrev pub nearest_name : NodeTable → List ℕ → Option (List ℕ)
nearest_name table text =
    let exact = nearest_of text (none_near text) profile_names in
    (nearest_of_groups text exact table.groups).name
