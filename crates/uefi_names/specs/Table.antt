-- A table of nodes: which row and which form of it a node has, and what each table is to keep to.
use Rattle.std.specs.Prelude.{◌≡◌, ℕ, ◌+◌, ◌*◌, ◌-◌, ◌%◌, Bool, true, ◌==◌, ◌&&◌, not, nat_le, List, [], ◌∷◌, length, take, drop, map, flat_map}
use Rattle.std.specs.Prelude.{Option, Some, None, slice_index, bit_and, if◌then◌else◌}
use Rattle.std.specs.Cmp.Lexicographic.{pointwise}
use Rattle.std.specs.List.{find, list_all, list_any}
use Rattle.std.specs.Option.{option_and_then, option_or}
use Rattle.uefi_names.specs.declared.table.NodeTable.{NodeTable}
use Rattle.uefi_names.specs.declared.table.NodeGroup.{NodeGroup}
use Rattle.uefi_names.specs.declared.table.NodeRow.{NodeRow}
use Rattle.uefi_names.specs.declared.table.Form.{Form}
use Rattle.uefi_names.specs.declared.table.Field.{Field}
use Rattle.uefi_names.specs.declared.table.When.{When}
use Rattle.uefi_names.specs.declared.table.When.TheVariants.{Always, Byte, Unlike, Bytes, BytesAndByte}
use Rattle.uefi_names.specs.declared.table.DataLen.{DataLen}
use Rattle.uefi_names.specs.declared.table.DataLen.TheVariants.{Exactly, AtLeast, Items}

-- so many bytes from an offset on: fewer if they end before
abbrev pub part : ℕ → ℕ → List ℕ → List ℕ
part at len bytes = take len (drop at bytes)

-- data may be this long
abbrev pub allows : DataLen → ℕ → Bool
allows (Exactly wanted) len = len == wanted
allows (AtLeast least) len = nat_le least len
allows (Items before each) len = nat_le before len && (not (each == 0) && (len - before) % each == 0)

-- the data have in them what they must
abbrev pub holds : When → List ℕ → Bool
holds Always body = true
holds (Byte at mask is) body = bit_and (slice_index body at) mask == is
holds (Unlike at mask is) body = not (bit_and (slice_index body at) mask == is)
holds (Bytes at are) body = pointwise ◌==◌ (part at (length are.now) body) are.now
holds (BytesAndByte are at mask is) body =
    pointwise ◌==◌ (part 0 (length are.now) body) are.now && bit_and (slice_index body at) mask == is

-- a node with these data has the form
abbrev pub fits : List ℕ → Form → Bool
fits body form = allows form.len (length body) && holds form.when body

-- the row of a sub-type in a group, if the group is of the type
abbrev pub row_in : ℕ → ℕ → NodeGroup → Option NodeRow
row_in kind sub group = if group.kind == kind then find (λ row. row.sub == sub) group.rows.now else None

-- the first of these in some groups
abbrev pub row_among : ℕ → ℕ → List NodeGroup → Option NodeRow
row_among kind sub [] = None
row_among kind sub (group ∷ groups) = option_or (row_in kind sub group) (row_among kind sub groups)

-- the row of a type and a sub-type
abbrev pub row_for : NodeTable → ℕ → ℕ → Option NodeRow
row_for table kind sub = row_among kind sub table.groups

-- the form that a node has by the table: of the row of its type and its sub-type, the first that fits
abbrev pub form_for : NodeTable → ℕ → ℕ → List ℕ → Option Form
form_for table kind sub body = option_and_then (λ row. find (fits body) row.forms.now) (row_for table kind sub)

-- the forms of a row, if there is one
abbrev pub forms_in : Option NodeRow → List Form
forms_in None = []
forms_in (Some row) = row.forms.now

-- the forms of the nodes of a type and a sub-type
abbrev pub forms_for : NodeTable → ℕ → ℕ → List Form
forms_for table kind sub = forms_in (row_for table kind sub)

-- no two of the numbers are the same
abbrev pub are_distinct : List ℕ → Bool
are_distinct [] = true
are_distinct (n ∷ others) = not (list_any (λ other. n == other) others) && are_distinct others

-- the types and the sub-types of the rows of a group, as one number each
abbrev pub types_in : NodeGroup → List ℕ
types_in group = map (λ row. group.kind * 0x100 + row.sub) group.rows.now

-- no two rows are of the same type and the same sub-type
abbrev pub IsTable : NodeTable → Type 0
IsTable table = are_distinct (flat_map types_in table.groups) ≡ true

-- the length of a field that goes to the end of the data
abbrev pub to_end : ℕ
to_end = 18446744073709551615

-- the fewest bytes that data may have
abbrev pub least : DataLen → ℕ
least (Exactly wanted) = wanted
least (AtLeast few) = few
least (Items before each) = before

-- the field has its bytes among so many, or goes from one of these, or from their end, to the end of the data
abbrev pub is_within : ℕ → Field → Bool
is_within few field = if field.len == to_end then nat_le field.at few else nat_le (field.at + field.len) few

-- each field of the form is within the fewest bytes that its data may have
abbrev pub is_whole : Form → Bool
is_whole form = list_all (is_within (least form.len)) form.fields.now

-- that is so of each form of each row
abbrev pub AreWhole : NodeTable → Type 0
AreWhole table =
    list_all (λ group. list_all (λ row. list_all is_whole row.forms.now) group.rows.now) table.groups ≡ true
