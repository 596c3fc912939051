-- Device paths as libefivar 37 prints them (UEFI 2.10, 10.6).
use Rattle.std.specs.Prelude.{◌≡◌, ℕ, Bool, ◌==◌, ◌&&◌, not, List, [], ◌∷◌, ◌++◌, map, codes, decimal, Option, Some, None, is_some, if◌then◌else◌}
use Rattle.std.specs.List.{join_with_byte}
use Rattle.uefi_path.specs.Row.{Row}
use Rattle.uefi_path.specs.declared.node.Node.{Node}
use Rattle.uefi_path.specs.declared.node.Node.TheVariants.{FilePath, Other}
use Rattle.uefi_text.specs.Bytes.{hex_text}
use Rattle.uefi_text.specs.Segment.{comma, slash}
use Rattle.uefi_text.specs.Printed.{node_text as exact_text}
use Rattle.uefi_names.specs.declared.table.NodeTable.{NodeTable}
use Rattle.uefi_names.specs.Table.{form_for}
use Rattle.uefi_names.specs.Standard.{plain_table, standard_table}
use Rattle.uefi_names.specs.Named.{shown_path, named_path}
use Rattle.efibootmgr_words.specs.EfivarRows.{efivar_table}
use Rattle.efibootmgr_words.specs.Nodes.{own_text}
use Rattle.efibootmgr_words.specs.Units.{units_text}

-- these are the table of libefivar's own forms and that of the standard's, wherever they lie in memory
abbrev pub AreTables : NodeTable → NodeTable → Type 0
AreTables own standard = (plain_table own ≡ efivar_table) × (plain_table standard ≡ standard_table)

-- a file, with the characters of its name up to the first zero unit
abbrev pub file_text : List ℕ → List ℕ
file_text units = codes "File(" ++ (units_text units ++ codes ")")

-- what nodes of a type are called that have no name of their own
abbrev pub kind_name : ℕ → Option (List ℕ)
kind_name kind =
    if kind == 1 then Some (codes "HardwarePath")
    else (if kind == 2 then Some (codes "AcpiPath")
    else (if kind == 3 then Some (codes "Msg")
    else (if kind == 4 then Some (codes "MediaPath")
    else (if kind == 5 then Some (codes "BbsPath") else None))))

-- a node that is kept as bytes and has no form: with the name of its type, or else as it is printed exactly
abbrev pub bare_text : Option (List ℕ) → Row → List ℕ
bare_text (Some name) r = name ++ (codes "(" ++ (decimal r.sub ++ (codes "," ++ (hex_text r.body ++ codes ")"))))
bare_text None r = exact_text (Other r)

-- the type and the sub-type of a file
abbrev pub is_file : Row → Bool
is_file r = (r.kind == 4) && (r.sub == 4)

-- the table has a form for the node
abbrev pub has_form : NodeTable → Row → Bool
has_form table r = is_some (form_for table r.kind r.sub r.body)

-- a node that is kept as bytes: in libefivar's own form, or in that of the standard, unless it is a file, or without one
abbrev pub other_text : NodeTable → NodeTable → Row → List ℕ
other_text own standard r =
    if has_form own r then shown_path own ((Other r ∷ []) ∷ [])
    else (if not (is_file r) && has_form standard r then named_path standard_table ((Other r ∷ []) ∷ [])
    else bare_text (kind_name r.kind) r)

abbrev pub node_text : NodeTable → NodeTable → Node → List ℕ
node_text own standard (FilePath units) = file_text units
node_text own standard (Other r) = other_text own standard r
node_text own standard node = own_text node

abbrev pub instance_text : NodeTable → NodeTable → List Node → List ℕ
instance_text own standard nodes = join_with_byte slash (map (node_text own standard) nodes)

abbrev pub path_text : NodeTable → NodeTable → List (List Node) → List ℕ
path_text own standard path = join_with_byte comma (map (instance_text own standard) path)
