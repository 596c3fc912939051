-- What a text stands for in which nodes have their names.
use Rattle.std.specs.Prelude.{◌≡◌, ◌⊎◌, ℕ, Bool, true, ◌||◌, ◌&&◌, ◌==◌, not, nat_lt, List, [], ◌∷◌, ◌++◌, length, codes}
use Rattle.std.specs.Prelude.{Option, Some, None, is_some, if◌then◌else◌}
use Rattle.std.specs.List.{find, list_all, join_with_byte}
use Rattle.uefi_path.specs.declared.node.Node.{Node}
use Rattle.uefi_path.specs.Row.{Row}
use Rattle.uefi_path.specs.Node.{row_of, IsNode}
use Rattle.uefi_path.specs.Path.{IsPath}
use Rattle.uefi_text.specs.Bytes.{Each}
use Rattle.uefi_text.specs.Segment.{comma}
use Rattle.uefi_text.specs.Cuts.{open_mark, close_mark}
use Rattle.uefi_text.specs.Path.{IsPathText}
use Rattle.uefi_text.specs.Reader.{◌>>=◌}
use Rattle.uefi_names.specs.declared.table.NodeTable.{NodeTable}
use Rattle.uefi_names.specs.Cut.{cut_named, segments_in, arguments_in, named_parts}
use Rattle.uefi_names.specs.Spelled.{is_word}
use Rattle.uefi_names.specs.Read.{table_read}

-- ---- by the table

-- the names of the nodes that have a case of their own
abbrev pub profile_names : List (List ℕ)
profile_names =
    codes "Pci" ∷ codes "USB" ∷ codes "Sata" ∷ codes "NVMe" ∷ codes "PciRoot" ∷ codes "PcieRoot" ∷ codes "Acpi"
    ∷ codes "MAC" ∷ codes "IPv4" ∷ codes "Vlan" ∷ codes "Uri" ∷ codes "File" ∷ codes "HD" ∷ codes "CDROM"
    ∷ codes "VenHw" ∷ codes "VenMsg" ∷ codes "VenMedia" ∷ codes "Path" ∷ []

-- one of these as it is printed
abbrev pub profile_name : List ℕ → Option (List ℕ)
profile_name name = find (is_word name) profile_names

-- all that is in parentheses is one argument
abbrev pub takes_whole : List ℕ → Bool
takes_whole name = is_word name (codes "Uri") || is_word name (codes "File")

-- a byte of ASCII that isn't a parenthesis
abbrev pub is_flat_ascii : ℕ → Bool
is_flat_ascii byte = nat_lt byte 0x80 && not ((byte == open_mark) || (byte == close_mark))

abbrev pub first_argument : List (List ℕ) → List ℕ
first_argument [] = []
first_argument (text ∷ _) = text

abbrev pub second_argument : List (List ℕ) → List ℕ
second_argument (_ ∷ text ∷ _) = text
second_argument _ = []

-- An exact text of this name may have these arguments: one of an address has fewer than 64 digits, one of an address of
-- IPv4 has no four fields, and one of a partition has a signature.
abbrev pub may_have : List ℕ → List (List ℕ) → Bool
may_have name arguments =
    if is_word name (codes "MAC") then nat_lt (length (first_argument arguments)) 64
    else (if is_word name (codes "IPv4") then not (length arguments == 4)
    else (if is_word name (codes "HD")
    then is_word (second_argument arguments) (codes "GPT") || is_word (second_argument arguments) (codes "MBR")
    else true))

-- what may be between the parentheses of an exact text of this name
abbrev pub may_enclose : List ℕ → List ℕ → Bool
may_enclose name inside =
    if takes_whole name then list_all is_flat_ascii inside else may_have name (arguments_in inside)

-- an exact text may have this name and what is between these parentheses
abbrev pub may_be_exact : List ℕ → List ℕ → Bool
may_be_exact name inside = is_some (profile_name name) && may_enclose name inside

-- what these spell by the table, if no exact text may have them
abbrev pub named_row : NodeTable → List ℕ → List ℕ → Option Row
named_row table name inside = if may_be_exact name inside then None else table_read table name inside

-- the node of a segment by the table
abbrev pub segment_row : NodeTable → List ℕ → Option Row
segment_row table text = named_parts text >>= λ parts. named_row table parts.0 parts.1

-- ---- by the exact texts

-- the text of a path of one node
abbrev pub IsOneNode : List ℕ → Node → Type 0
IsOneNode text node = IsPathText text ((node ∷ []) ∷ [])

abbrev pub inside_again : List ℕ → List ℕ → List ℕ
inside_again name inside = if takes_whole name then inside else join_with_byte comma (arguments_in inside)

-- a segment with this name, and without spaces before arguments
abbrev pub segment_again : List ℕ → List ℕ → Option (List ℕ) → Option (List ℕ)
segment_again name inside known =
    known >>= λ printed. Some (printed ++ (codes "(" ++ (inside_again name inside ++ codes ")")))

-- a segment with its name as it is printed, and without spaces before arguments
abbrev pub respelled : List ℕ → Option (List ℕ)
respelled text = named_parts text >>= λ parts. segment_again parts.0 parts.1 (profile_name parts.0)

-- the segment as it is respelled stands for the node
abbrev pub IsAgain : Option (List ℕ) → Node → Type 0
IsAgain None node = ⊥
IsAgain (Some text) node = IsOneNode text node

-- the segment stands for the node as it is, or does so as it is respelled and for none as it is
abbrev pub IsExactSegment : List ℕ → Node → Type 0
IsExactSegment text node =
    IsOneNode text node ⊎ (((other : Node) → IsOneNode text other → ⊥) × IsAgain (respelled text) node)

-- ---- paths

-- a node that has this row, if there is one, and otherwise what the segment stands for exactly
abbrev pub IsNodeOf : Option Row → List ℕ → Node → Type 0
IsNodeOf (Some r) text node = IsNode node × (row_of node ≡ r)
IsNodeOf None text node = IsExactSegment text node

-- the segment stands for the node
abbrev pub IsNamedSegment : NodeTable → List ℕ → Node → Type 0
IsNamedSegment table text node = IsNodeOf (segment_row table text) text node

-- the segments of the text of an instance stand for its nodes
abbrev pub IsNamedInstance : NodeTable → List ℕ → List Node → Type 0
IsNamedInstance table text nodes = Each (IsNamedSegment table) (segments_in text) nodes

-- the segments of the text stand for the path's nodes, instance by instance
pub record IsNamedText (table : NodeTable) (text : List ℕ) (path : List (List Node)) : Type 0 where
  pub valid : IsPath path
  pub nodes : Each (Each (IsNamedSegment table)) (cut_named text) path

-- For private functions of the reader: a node that the relation holds of, or that there is none.
abbrev pub Finds : {X : Type 0} → (X → Type 0) → Option X → Type 0
Finds Is (Some x) = Is x
Finds {X} Is None = (x : X) → Is x → ⊥
