-- What the text of a node in a form of a table stands for: the data that its arguments spell.
use Rattle.std.specs.Prelude.{ℕ, suc, Bool, true, false, ◌==◌, ◌&&◌, nat_lt, List, [], ◌∷◌, ◌++◌, length, replicate, set, slice_index, bit_or}
use Rattle.std.specs.Prelude.{Option, Some, None, if◌then◌else◌}
use Rattle.std.specs.List.{find}
use Rattle.std.specs.Option.{option_or}
use Rattle.uefi_path.specs.Row.{Row, row}
use Rattle.uefi_text.specs.Reader.{◌>>=◌}
use Rattle.uefi_names.specs.declared.table.NodeTable.{NodeTable}
use Rattle.uefi_names.specs.declared.table.NodeGroup.{NodeGroup}
use Rattle.uefi_names.specs.declared.table.NodeRow.{NodeRow}
use Rattle.uefi_names.specs.declared.table.Form.{Form}
use Rattle.uefi_names.specs.declared.table.Field.{Field}
use Rattle.uefi_names.specs.declared.table.When.{When}
use Rattle.uefi_names.specs.declared.table.When.TheVariants.{Always, Byte, Unlike, Bytes, BytesAndByte}
use Rattle.uefi_names.specs.declared.table.Item.{Item}
use Rattle.uefi_names.specs.declared.table.Show.{Show}
use Rattle.uefi_names.specs.declared.table.Show.TheVariants as shows
use Rattle.uefi_names.specs.Table.{fits, least, to_end}
use Rattle.uefi_names.specs.Cut.{arguments_in}
use Rattle.uefi_names.specs.Spelled.{is_word, item_read, shown_read}

-- ---- arguments

-- what items spell, one after the other, after what is done
abbrev pub items_read : Item → ℕ → List ℕ → List (List ℕ) → Option (List ℕ)
items_read item len done [] = Some done
items_read item len done (text ∷ texts) =
    item_read item len text >>= λ bytes. items_read item len (done ++ bytes) texts

-- what the first argument spells, and those that are left
abbrev pub first_read : Show → ℕ → List (List ℕ) → Option (List ℕ × List (List ℕ))
first_read show len [] = None
first_read show len (text ∷ texts) = shown_read show len text >>= λ bytes. Some (bytes, texts)

-- the length and the kind of the items of a list
abbrev pub items_of : Show → Option (ℕ × Item)
items_of (shows.Each size item) = Some (size, item)
items_of _ = None

-- what all arguments spell
abbrev pub all_read : Item → ℕ → List (List ℕ) → Option (List ℕ × List (List ℕ))
all_read item size texts = items_read item size [] texts >>= λ bytes. Some (bytes, [])

abbrev pub read_by : Option (ℕ × Item) → Show → ℕ → List (List ℕ) → Option (List ℕ × List (List ℕ))
read_by (Some items) show len texts = all_read items.1 items.0 texts
read_by None show len texts = first_read show len texts

-- what the arguments of a field spell, and those that are left: a list of items has all, another field the first
abbrev pub field_read : Show → ℕ → List (List ℕ) → Option (List ℕ × List (List ℕ))
field_read show len texts = read_by (items_of show) show len texts

-- how many texts come before that of a field
abbrev pub rank_of : Show → ℕ
rank_of (shows.Ascii before) = before
rank_of _ = 0

-- the bytes that are spelled in a field: its offset, whether it goes to the end, and how many texts come before it there
pub record Spelled : Type 0 where
  pub at : ℕ
  pub is_last : Bool
  pub rank : ℕ
  pub bytes : List ℕ

abbrev pub spelled_in : Field → List ℕ → Spelled
spelled_in field bytes =
    record { at = field.at; is_last = field.len == to_end; rank = rank_of field.show; bytes = bytes }

-- what the arguments of fields spell, after what is done: each argument is of a field
abbrev pub fields_read : List Spelled → List Field → List (List ℕ) → Option (List Spelled)
fields_read done [] texts = if length texts == 0 then Some done else None
fields_read done (field ∷ fields) texts =
    field_read field.show field.len texts >>= λ one. fields_read (done ++ spelled_in field one.0 ∷ []) fields one.1

abbrev pub shows_whole : Show → Bool
shows_whole (shows.Whole encoding) = true
shows_whole _ = false

-- the only field is shown as all that is in parentheses
abbrev pub takes_inside : List Field → Bool
takes_inside (field ∷ []) = shows_whole field.show
takes_inside _ = false

-- the arguments of a form: a form without fields has none
abbrev pub arguments_of : List Field → List ℕ → List (List ℕ)
arguments_of fields inside =
    if takes_inside fields then inside ∷ []
    else (if (length fields == 0) && (length inside == 0) then [] else arguments_in inside)

-- ---- data

-- the offset of a field, if there is one
abbrev pub offset_or : Option Field → ℕ → ℕ
offset_or (Some field) otherwise = field.at
offset_or None otherwise = otherwise

-- how many bytes come before what goes to the end of the data
abbrev pub front_len : Form → ℕ
front_len form = offset_or (find (λ (field : Field). field.len == to_end) form.fields.now) (least form.len)

-- a byte with these bits set besides; after the end there is none
abbrev pub with_byte : ℕ → ℕ → List ℕ → List ℕ
with_byte at bits body = if nat_lt at (length body) then set body at (bit_or (slice_index body at) bits) else body

-- the same of bytes from an offset on
abbrev pub with_bits : ℕ → List ℕ → List ℕ → List ℕ
with_bits at [] body = body
with_bits at (bits ∷ others) body = with_bits (suc at) others (with_byte at bits body)

-- zeros, but what the form must have
abbrev pub front_of : When → ℕ → List ℕ
front_of Always len = replicate len 0
front_of (Byte at mask is) len = with_bits at (is ∷ []) (replicate len 0)
front_of (Unlike at mask is) len = replicate len 0
front_of (Bytes at are) len = with_bits at are.now (replicate len 0)
front_of (BytesAndByte are at mask is) len = with_bits at (is ∷ []) (with_bits 0 are.now (replicate len 0))

-- the bits of each field that doesn't go to the end
abbrev pub with_fields : List Spelled → List ℕ → List ℕ
with_fields [] body = body
with_fields (one ∷ others) body =
    with_fields others (if one.is_last then body else with_bits one.at one.bytes body)

-- after them the bytes of each field that goes to the end and has so many texts before it
abbrev pub with_tails : ℕ → List Spelled → List ℕ → List ℕ
with_tails rank [] body = body
with_tails rank (one ∷ others) body =
    with_tails rank others (if one.is_last && (one.rank == rank) then body ++ one.bytes else body)

abbrev pub body_of : Form → List Spelled → List ℕ
body_of form all =
    with_tails 2 all (with_tails 1 all (with_tails 0 all (with_fields all (front_of form.when (front_len form)))))

abbrev pub if_fits : Form → List ℕ → Option (List ℕ)
if_fits form body = if fits body form then Some body else None

-- the data that a text in this form spells, if they are data of the form
abbrev pub form_read : Form → List ℕ → Option (List ℕ)
form_read form inside =
    fields_read [] form.fields.now (arguments_of form.fields.now inside) >>= λ all. if_fits form (body_of form all)

-- ---- the table

abbrev pub named_form_read : List ℕ → List ℕ → Form → Option (List ℕ)
named_form_read name inside form = if is_word name form.name.now then form_read form inside else None

-- the data that the first form of this name with data spells
abbrev pub forms_read : List ℕ → List ℕ → List Form → Option (List ℕ)
forms_read name inside [] = None
forms_read name inside (form ∷ forms) = option_or (named_form_read name inside form) (forms_read name inside forms)

abbrev pub row_read : ℕ → ℕ → Option (List ℕ) → Option Row
row_read kind sub body = body >>= λ bytes. Some (row kind sub bytes)

abbrev pub rows_read : ℕ → List ℕ → List ℕ → List NodeRow → Option Row
rows_read kind name inside [] = None
rows_read kind name inside (r ∷ rows) =
    option_or (row_read kind r.sub (forms_read name inside r.forms.now)) (rows_read kind name inside rows)

-- the same of groups of rows, one after the other
abbrev pub groups_read : List ℕ → List ℕ → List NodeGroup → Option Row
groups_read name inside [] = None
groups_read name inside (group ∷ groups) =
    option_or (rows_read group.kind name inside group.rows.now) (groups_read name inside groups)

-- the node that a name and what is between parentheses spell by the table: that of the first form
abbrev pub table_read : NodeTable → List ℕ → List ℕ → Option Row
table_read table name inside = groups_read name inside table.groups
