-- Paths as text, with each node by its name.
use Rattle.std.specs.Prelude.{Bool, true, false, ◌&&◌, ℕ, List, [], ◌∷◌, map, Option, Some, None, unwrap_or, codes, decimal}
use Rattle.std.specs.Prelude.{if◌then◌else◌}
use Rattle.std.specs.List.{join_with_byte}
use Rattle.std.specs.Option.{option_or}
use Rattle.uefi_path.specs.declared.node.Node.{Node}
use Rattle.uefi_path.specs.declared.node.Node.TheVariants.{Other, Vlan}
use Rattle.uefi_path.specs.Row.{Row}
use Rattle.uefi_path.specs.Node.{row_of}
use Rattle.uefi_path.specs.Equality.{row_eq}
use Rattle.uefi_text.specs.Segment.{Segment, named, comma, slash, segment_text}
use Rattle.uefi_text.specs.Printed.{segment_of, node_text, is_hd_or_file}
use Rattle.uefi_names.specs.declared.table.NodeTable.{NodeTable}
use Rattle.uefi_names.specs.declared.table.Form.{Form}
use Rattle.uefi_names.specs.Table.{fits, form_for, forms_for}
use Rattle.uefi_names.specs.Shown.{form_text}
use Rattle.uefi_names.specs.Cut.{is_whole_for}
use Rattle.uefi_names.specs.Reading.{segment_row}

-- ---- in the forms of a table, whether or not the text can be read back

-- a node that is kept as bytes: in a form, or without one as it is printed
abbrev pub other_text : Option Form → Row → List ℕ
other_text (Some form) r = form_text form r.body
other_text None r = node_text (Other r)

-- a node in the form that the table has for it, and one with a case of its own as it is printed
abbrev pub shown_node : NodeTable → Node → List ℕ
shown_node table (Other r) = other_text (form_for table r.kind r.sub r.body) r
shown_node table node = node_text node

abbrev pub shown_instance : NodeTable → List Node → List ℕ
shown_instance table nodes = join_with_byte slash (map (shown_node table) nodes)

abbrev pub shown_path : NodeTable → List (List Node) → List ℕ
shown_path table path = join_with_byte comma (map (shown_instance table) path)

-- ---- so that the text is read as the path

-- a text that is one segment wherever it stands
abbrev pub is_segment : List ℕ → Bool
is_segment text = is_whole_for comma text && is_whole_for slash text

abbrev pub is_row : Option Row → Row → Bool
is_row None r = false
is_row (Some read) r = row_eq read r

-- the text is a segment that is read as the node
abbrev pub is_read_back : NodeTable → List ℕ → Row → Bool
is_read_back table text r = is_segment text && is_row (segment_row table text) r

abbrev pub if_read_back : NodeTable → Row → List ℕ → Option (List ℕ)
if_read_back table r text = if is_read_back table text r then Some text else None

-- the text of a node in a form, if its data fit and the text is read as the node
abbrev pub text_in_form : NodeTable → Row → Form → Option (List ℕ)
text_in_form table r form = if fits r.body form then if_read_back table r (form_text form r.body) else None

-- the text in the first of these forms that has one
abbrev pub text_in_forms : NodeTable → Row → List Form → Option (List ℕ)
text_in_forms table r [] = None
text_in_forms table r (form ∷ forms) = option_or (text_in_form table r form) (text_in_forms table r forms)

-- the text of a node by the table
abbrev pub table_text : NodeTable → Row → Option (List ℕ)
table_text table r = text_in_forms table r (forms_for table r.kind r.sub)

-- the segment of a node as it is printed exactly, but with the identifier of a network in decimal digits (10.6.1)
abbrev pub plain_segment : Node → Segment
plain_segment (Vlan id) = named (codes "Vlan") (decimal id ∷ [])
plain_segment node = segment_of node

abbrev pub plain_text : Node → List ℕ
plain_text node = segment_text (plain_segment node)

-- A node by its name if a form of the table has a text that is read as the node, otherwise without a form. No form of
-- the standard has such a text for an `HD` or a `File`.
abbrev pub named_node : NodeTable → Node → List ℕ
named_node table node =
    if is_hd_or_file node then plain_text node else unwrap_or (table_text table (row_of node)) (plain_text node)

abbrev pub named_instance : NodeTable → List Node → List ℕ
named_instance table nodes = join_with_byte slash (map (named_node table) nodes)

abbrev pub named_path : NodeTable → List (List Node) → List ℕ
named_path table path = join_with_byte comma (map (named_instance table) path)

-- For private functions: what comes before a node, which is the first of its instance or isn't.
abbrev pub slash_before : Bool → List ℕ
slash_before true = []
slash_before false = codes "/"
