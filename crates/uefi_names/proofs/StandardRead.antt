-- What is read and printed by a table is so by the same table wherever its parts lie in memory.
use Rattle.std.proofs.Common.{◌≡◌, ◌==◌, ℕ, suc, Bool, List, [], ◌∷◌, ◌++◌, map, length, refl, ap, sym, subst, ◌∙◌}
use Rattle.std.specs.Prelude.{Option, Some, None, unwrap_or, if◌then◌else◌}
use Rattle.std.specs.List.{find, join_with_byte}
use Rattle.std.specs.Option.{option_map}
use Rattle.uefi_path.specs.declared.node.Node.{Node}
use Rattle.uefi_path.specs.Node.{row_of}
use Rattle.uefi_path.specs.Row.{Row}
use Rattle.uefi_text.specs.Bytes.{Each}
use Rattle.uefi_text.specs.Printed.{is_hd_or_file}
use Rattle.uefi_text.specs.Segment.{comma, slash}
use Rattle.uefi_text.specs.Reader.{◌>>=◌}
use Rattle.uefi_names.specs.declared.table.NodeTable.{NodeTable}
use Rattle.uefi_names.specs.declared.table.NodeGroup.{NodeGroup}
use Rattle.uefi_names.specs.declared.table.NodeRow.{NodeRow}
use Rattle.uefi_names.specs.declared.table.Form.{Form}
use Rattle.uefi_names.specs.declared.table.Field.{Field}
use Rattle.uefi_names.specs.declared.table.Word.{Word}
use Rattle.uefi_names.specs.declared.table.When.{When}
use Rattle.uefi_names.specs.declared.table.When.TheVariants.{Always, Byte, Unlike, Bytes, BytesAndByte}
use Rattle.uefi_names.specs.declared.table.Item.{Item}
use Rattle.uefi_names.specs.declared.table.Show.{Show}
use Rattle.uefi_names.specs.declared.table.Show.TheVariants as shows
use Rattle.uefi_names.specs.Table.{row_for, forms_in, forms_for, least, to_end}
use Rattle.uefi_names.specs.Shown.{form_text}
use Rattle.uefi_names.specs.Standard.{plain_word, plain_show, plain_field, plain_when, plain_form, plain_row, plain_group, plain_table, standard_table}
use Rattle.uefi_names.specs.Cut.{cut_named, named_parts}
use Rattle.uefi_names.specs.Spelled.{is_word, word_of, number_read, number_bytes, within_mask, number_or, masked_read, shown_read}
use Rattle.uefi_names.specs.Read.{first_read, items_of, read_by, field_read, offset_or, Spelled, spelled_in, rank_of, fields_read, shows_whole, takes_inside, arguments_of, front_len, front_of, with_fields, with_tails, body_of, if_fits, form_read, forms_read, rows_read, groups_read, table_read}
use Rattle.uefi_names.specs.Reading.{may_be_exact, named_row, segment_row, IsNodeOf, IsNamedSegment, IsNamedText}
use Rattle.uefi_names.specs.Named.{text_in_form, text_in_forms, table_text, plain_text, named_node, named_path}
use Rattle.uefi_names.proofs.Standard.{find-same, fits-same, form-same, row_for-same}

-- ---- arguments

plain_number : (word : Option Word) (other : Option ℕ) → number_or (option_map plain_word word) other ≡ number_or word other
plain_number None other = refl
plain_number (Some word) other = refl

masked-same : (mask : ℕ) (words : List Word) (text : List ℕ) → masked_read mask (map plain_word words) text ≡ masked_read mask words text
masked-same mask words text =
    ap (λ (word : Option Word). number_or word (number_read text >>= within_mask mask)) (find-same (λ word. is_word text word.text.now) plain_word (λ word. refl) words)
    ∙ plain_number (word_of words text) (number_read text >>= within_mask mask)

read-same : (show : Show) (len : ℕ) (text : List ℕ) → shown_read (plain_show show) len text ≡ shown_read show len text
read-same (shows.Word mask words otherwise) len text = ap (λ (n : Option ℕ). n >>= number_bytes len) (masked-same mask words.now text)
read-same (shows.Number numeral) len text = refl
read-same shows.OneMore len text = refl
read-same shows.AllDigits len text = refl
read-same (shows.Literal literal) len text = refl
read-same shows.Digits len text = refl
read-same shows.PrefixedDigits len text = refl
read-same shows.Guid len text = refl
read-same shows.HardwareId len text = refl
read-same shows.Ipv4 len text = refl
read-same shows.Ipv6 len text = refl
read-same (shows.Ascii before) len text = refl
read-same shows.LoneAscii len text = refl
read-same shows.Units len text = refl
read-same (shows.Each size item) len text = refl
read-same (shows.Whole encoding) len text = refl

first-same : (a b : Show) (len : ℕ) → ((text : List ℕ) → shown_read a len text ≡ shown_read b len text) → (texts : List (List ℕ)) → first_read a len texts ≡ first_read b len texts
first-same a b len same [] = refl
first-same a b len same (text ∷ texts) = ap (λ (bytes : Option (List ℕ)). bytes >>= λ them. Some (them, texts)) (same text)

items-same : (show : Show) → items_of (plain_show show) ≡ items_of show
items-same (shows.Word mask words otherwise) = refl
items-same (shows.Literal literal) = refl
items-same (shows.Number numeral) = refl
items-same shows.OneMore = refl
items-same shows.AllDigits = refl
items-same shows.Digits = refl
items-same shows.PrefixedDigits = refl
items-same shows.Guid = refl
items-same shows.HardwareId = refl
items-same shows.Ipv4 = refl
items-same shows.Ipv6 = refl
items-same (shows.Ascii before) = refl
items-same shows.LoneAscii = refl
items-same shows.Units = refl
items-same (shows.Each size item) = refl
items-same (shows.Whole encoding) = refl

by-same : (items : Option (ℕ × Item)) (show : Show) (len : ℕ) (texts : List (List ℕ)) → read_by items (plain_show show) len texts ≡ read_by items show len texts
by-same (Some items) show len texts = refl
by-same None show len texts = first-same (plain_show show) show len (read-same show len) texts

field-same : (show : Show) (len : ℕ) (texts : List (List ℕ)) → field_read (plain_show show) len texts ≡ field_read show len texts
field-same show len texts = rw (items-same show) (by-same (items_of show) show len texts)

rank-same : (show : Show) → rank_of (plain_show show) ≡ rank_of show
rank-same (shows.Word mask words otherwise) = refl
rank-same (shows.Literal literal) = refl
rank-same (shows.Number numeral) = refl
rank-same shows.OneMore = refl
rank-same shows.AllDigits = refl
rank-same shows.Digits = refl
rank-same shows.PrefixedDigits = refl
rank-same shows.Guid = refl
rank-same shows.HardwareId = refl
rank-same shows.Ipv4 = refl
rank-same shows.Ipv6 = refl
rank-same (shows.Ascii before) = refl
rank-same shows.LoneAscii = refl
rank-same shows.Units = refl
rank-same (shows.Each size item) = refl
rank-same (shows.Whole encoding) = refl

spelled-same : (field : Field) (bytes : List ℕ) → spelled_in (plain_field field) bytes ≡ spelled_in field bytes
spelled-same field bytes = ap (λ (n : ℕ). record { at = field.at; is_last = field.len == to_end; rank = n; bytes = bytes }) (rank-same field.show)

fields-same : (done : List Spelled) (fields : List Field) (texts : List (List ℕ)) → fields_read done (map plain_field fields) texts ≡ fields_read done fields texts
fields-same done [] texts = refl
fields-same done (field ∷ fields) texts = rw (field-same field.show field.len texts) (go (λ bytes rest. fields-same (done ++ spelled_in field bytes ∷ []) fields rest) (field_read field.show field.len texts))
  where
    go : ((bytes : List ℕ) (rest : List (List ℕ)) → fields_read (done ++ spelled_in field bytes ∷ []) (map plain_field fields) rest ≡ fields_read (done ++ spelled_in field bytes ∷ []) fields rest)
        → (one : Option (List ℕ × List (List ℕ)))
        → (one >>= λ o. fields_read (done ++ spelled_in (plain_field field) o.0 ∷ []) (map plain_field fields) o.1)
        ≡ (one >>= λ o. fields_read (done ++ spelled_in field o.0 ∷ []) fields o.1)
    go more None = refl
    go more (Some o) = rw (spelled-same field o.0) (more o.0 o.1)

map_length : {X Y : Type 0} (f : X → Y) (xs : List X) → length (map f xs) ≡ length xs
map_length f [] = refl
map_length f (x ∷ xs) = ap (λ (n : ℕ). suc n) (map_length f xs)

whole-same : (show : Show) → shows_whole (plain_show show) ≡ shows_whole show
whole-same (shows.Word mask words otherwise) = refl
whole-same (shows.Literal literal) = refl
whole-same (shows.Number numeral) = refl
whole-same shows.OneMore = refl
whole-same shows.AllDigits = refl
whole-same shows.Digits = refl
whole-same shows.PrefixedDigits = refl
whole-same shows.Guid = refl
whole-same shows.HardwareId = refl
whole-same shows.Ipv4 = refl
whole-same shows.Ipv6 = refl
whole-same (shows.Ascii before) = refl
whole-same shows.LoneAscii = refl
whole-same shows.Units = refl
whole-same (shows.Each size item) = refl
whole-same (shows.Whole encoding) = refl

inside-same : (fields : List Field) → takes_inside (map plain_field fields) ≡ takes_inside fields
inside-same [] = refl
inside-same (field ∷ []) = whole-same field.show
inside-same (field ∷ second ∷ fields) = refl

arguments-same : (fields : List Field) (inside : List ℕ) → arguments_of (map plain_field fields) inside ≡ arguments_of fields inside
arguments-same fields inside = rw (inside-same fields, map_length plain_field fields) refl

-- ---- data

plain_offset : (found : Option Field) (other : ℕ) → offset_or (option_map plain_field found) other ≡ offset_or found other
plain_offset None other = refl
plain_offset (Some field) other = refl

front_len-same : (form : Form) → front_len (plain_form form) ≡ front_len form
front_len-same form =
    ap (λ (found : Option Field). offset_or found (least form.len)) (find-same (λ field. field.len == to_end) plain_field (λ field. refl) form.fields.now)
    ∙ plain_offset (find (λ field. field.len == to_end) form.fields.now) (least form.len)

front-same : (when : When) (len : ℕ) → front_of (plain_when when) len ≡ front_of when len
front-same Always len = refl
front-same (Byte at mask is) len = refl
front-same (Unlike at mask is) len = refl
front-same (Bytes at are) len = refl
front-same (BytesAndByte are at mask is) len = refl

body-same : (form : Form) (all : List Spelled) → body_of (plain_form form) all ≡ body_of form all
body-same form all =
    ap (λ (front : List ℕ). with_tails 2 all (with_tails 1 all (with_tails 0 all (with_fields all front))))
    (front-same form.when (front_len (plain_form form)) ∙ ap (front_of form.when) (front_len-same form))

if_fits-same : (form : Form) (body : List ℕ) → if_fits (plain_form form) body ≡ if_fits form body
if_fits-same form body = ap (λ (b : Bool). if b then Some body else None) (fits-same body form)

form_read-same : (form : Form) (inside : List ℕ) → form_read (plain_form form) inside ≡ form_read form inside
form_read-same form inside =
    ap (λ (all : Option (List Spelled)). all >>= λ them. if_fits (plain_form form) (body_of (plain_form form) them))
    (ap (fields_read [] (map plain_field form.fields.now)) (arguments-same form.fields.now inside) ∙ fields-same [] form.fields.now (arguments_of form.fields.now inside))
    ∙ go (fields_read [] form.fields.now (arguments_of form.fields.now inside))
  where
    go : (all : Option (List Spelled)) → (all >>= λ them. if_fits (plain_form form) (body_of (plain_form form) them)) ≡ (all >>= λ them. if_fits form (body_of form them))
    go None = refl
    go (Some them) = ap (if_fits (plain_form form)) (body-same form them) ∙ if_fits-same form (body_of form them)

-- ---- the table

forms-same : (name inside : List ℕ) (forms : List Form) → forms_read name inside (map plain_form forms) ≡ forms_read name inside forms
forms-same name inside [] = refl
forms-same name inside (form ∷ forms) = rw (form_read-same form inside, forms-same name inside forms) refl

rows_read-same : (kind : ℕ) (name inside : List ℕ) (rows : List NodeRow) → rows_read kind name inside (map plain_row rows) ≡ rows_read kind name inside rows
rows_read-same kind name inside [] = refl
rows_read-same kind name inside (r ∷ rows) = rw (forms-same name inside r.forms.now, rows_read-same kind name inside rows) refl

groups-same : (name inside : List ℕ) (groups : List NodeGroup) → groups_read name inside (map plain_group groups) ≡ groups_read name inside groups
groups-same name inside [] = refl
groups-same name inside (group ∷ groups) =
    rw (rows_read-same group.kind name inside group.rows.now, groups-same name inside groups) refl

table-same : (table : NodeTable) (name inside : List ℕ) → table_read (plain_table table) name inside ≡ table_read table name inside
table-same table name inside = groups-same name inside table.groups

segment-same : (table : NodeTable) (text : List ℕ) → segment_row (plain_table table) text ≡ segment_row table text
segment-same table text = go (named_parts text)
  where
    go : (parts : Option (List ℕ × List ℕ)) → (parts >>= λ them. named_row (plain_table table) them.0 them.1) ≡ (parts >>= λ them. named_row table them.0 them.1)
    go None = refl
    go (Some them) = ap (λ (read : Option Row). if may_be_exact them.0 them.1 then None else read) (table-same table them.0 them.1)

-- ---- nodes and paths

in_form-same : (table : NodeTable) (r : Row) (form : Form) → text_in_form (plain_table table) r (plain_form form) ≡ text_in_form table r form
in_form-same table r form =
    rw (fits-same r.body form, form-same form r.body, segment-same table (form_text form r.body)) refl

in_forms-same : (table : NodeTable) (r : Row) (forms : List Form) → text_in_forms (plain_table table) r (map plain_form forms) ≡ text_in_forms table r forms
in_forms-same table r [] = refl
in_forms-same table r (form ∷ forms) = rw (in_form-same table r form, in_forms-same table r forms) refl

plain_forms : (found : Option NodeRow) → forms_in (option_map plain_row found) ≡ map plain_form (forms_in found)
plain_forms None = refl
plain_forms (Some r) = refl

forms_for-same : (table : NodeTable) (kind sub : ℕ) → forms_for (plain_table table) kind sub ≡ map plain_form (forms_for table kind sub)
forms_for-same table kind sub = ap forms_in (row_for-same table kind sub) ∙ plain_forms (row_for table kind sub)

table_text-same : (table : NodeTable) (r : Row) → table_text (plain_table table) r ≡ table_text table r
table_text-same table r =
    ap (text_in_forms (plain_table table) r) (forms_for-same table r.kind r.sub) ∙ in_forms-same table r (forms_for table r.kind r.sub)

node-same : (table : NodeTable) (node : Node) → named_node (plain_table table) node ≡ named_node table node
node-same table node =
    ap (λ (text : Option (List ℕ)). if is_hd_or_file node then plain_text node else unwrap_or text (plain_text node)) (table_text-same table (row_of node))

path-same : (table : NodeTable) (path : List (List Node)) → named_path (plain_table table) path ≡ named_path table path
path-same table path =
    let same : named_node (plain_table table) ≡ named_node table = λ i node. node-same table node i in
    ap (λ (text : Node → List ℕ). join_with_byte comma (map (λ nodes. join_with_byte slash (map text nodes)) path)) same

-- the text by a table that is the standard's
pub standard-text : (table : NodeTable) → plain_table table ≡ standard_table → (path : List (List Node)) → named_path table path ≡ named_path standard_table path
standard-text table is path = sym (path-same table path) ∙ ap (λ t. named_path t path) is

-- the path by a table that is the standard's
pub standard-row : (table : NodeTable) → plain_table table ≡ standard_table → (text : List ℕ) → segment_row table text ≡ segment_row standard_table text
standard-row table is text = sym (segment-same table text) ∙ ap (λ t. segment_row t text) is

pub standard-segment : (table : NodeTable) → plain_table table ≡ standard_table → IsNamedSegment table ≡ IsNamedSegment standard_table
standard-segment table is = λ i text node. IsNodeOf (standard-row table is text i) text node

pub standard-path : (table : NodeTable) → plain_table table ≡ standard_table → (text : List ℕ) (path : List (List Node)) → IsNamedText table text path → IsNamedText standard_table text path
standard-path table is text path named = record {
  valid = named.valid;
  nodes = subst (λ (R : List ℕ → Node → Type 0). Each (Each R) (cut_named text) path) (standard-segment table is) named.nodes;
}

pub standard-path-back : (table : NodeTable) → plain_table table ≡ standard_table → (text : List ℕ) (path : List (List Node)) → IsNamedText standard_table text path → IsNamedText table text path
standard-path-back table is text path named = record {
  valid = named.valid;
  nodes = subst (λ (R : List ℕ → Node → Type 0). Each (Each R) (cut_named text) path) (sym (standard-segment table is)) named.nodes;
}
