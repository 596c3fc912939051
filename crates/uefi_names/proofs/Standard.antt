-- What is printed by a table is printed by the same table wherever its parts lie in memory.
use Rattle.std.proofs.Common.{◌≡◌, ℕ, Bool, true, false, cond, ◌&&◌, ◌==◌, List, [], ◌∷◌, ◌++◌, map, length, Option, Some, None, refl, ap, sym, ◌∙◌, ◌+◌, ◌*◌}
use Rattle.std.specs.Prelude.{codes, bit_and, flat_map}
use Rattle.std.specs.List.{find, join_with_byte, list_all}
use Rattle.std.specs.Option.{option_map, option_or}
use Rattle.uefi_text.specs.Segment.{comma}
use Rattle.uefi_names.specs.declared.table.NodeTable.{NodeTable}
use Rattle.uefi_names.specs.declared.table.NodeGroup.{NodeGroup}
use Rattle.uefi_names.specs.declared.table.NodeRow.{NodeRow}
use Rattle.uefi_names.specs.declared.table.Form.{Form}
use Rattle.uefi_names.specs.declared.table.Field.{Field}
use Rattle.uefi_names.specs.declared.table.Word.{Word}
use Rattle.uefi_names.specs.declared.table.Numeral.{Numeral}
use Rattle.uefi_names.specs.declared.table.When.{When}
use Rattle.uefi_names.specs.declared.table.When.TheVariants.{Always, Byte, Unlike, Bytes, BytesAndByte}
use Rattle.uefi_names.specs.declared.table.Show.{Show}
use Rattle.uefi_names.specs.declared.table.Show.TheVariants as shows
use Rattle.uefi_names.specs.Table.{
  allows,
  holds,
  fits,
  row_in,
  row_among,
  row_for,
  types_in,
  are_distinct,
  IsTable,
  least,
  is_within,
  is_whole,
  AreWhole,
  part,
}
use Rattle.uefi_names.specs.Standard.{plain_word, plain_show, plain_field, plain_when, plain_form, plain_row, plain_group, plain_table, standard_table}
use Rattle.uefi_names.specs.Shown.{number_in, word_for, word_text, shown_text, field_text, fields_text, form_text}

-- ---- lists whose items are changed so that nothing is seen of it

map-same : {X Y : Type 0} (text : X → Y) (change : X → X) → ((x : X) → text (change x) ≡ text x) → (xs : List X) → map text (map change xs) ≡ map text xs
map-same text change same [] = refl
map-same text change same (x ∷ xs) = ap (λ y. y ∷ map text (map change xs)) (same x) ∙ ap (λ ys. text x ∷ ys) (map-same text change same xs)

pub find-same : {X : Type 0} (test : X → Bool) (change : X → X) → ((x : X) → test (change x) ≡ test x) → (xs : List X) → find test (map change xs) ≡ option_map change (find test xs)
find-same test change same [] = refl
find-same test change same (x ∷ xs) = ap (λ b. cond b (Some (change x)) (find test (map change xs))) (same x) ∙ go (test x) (find-same test change same xs)
  where
    go : (b : Bool) → find test (map change xs) ≡ option_map change (find test xs) →
        cond b (Some (change x)) (find test (map change xs)) ≡ option_map change (cond b (Some x) (find test xs))
    go true later = refl
    go false later = later

-- ---- fields

word-same : (word : Option Word) (otherwise : Numeral) (n : ℕ) → word_text (option_map plain_word word) otherwise n ≡ word_text word otherwise n
word-same None otherwise n = refl
word-same (Some word) otherwise n = refl

shown-same : (show : Show) (bytes : List ℕ) → shown_text (plain_show show) bytes ≡ shown_text show bytes
shown-same (shows.Word mask words otherwise) bytes =
    let n = bit_and (number_in bytes) mask in
    ap (λ (word : Option Word). word_text word otherwise n) (find-same (λ word. word.number == n) plain_word (λ word. refl) words.now) ∙ word-same (word_for words.now n) otherwise n
shown-same (shows.Number numeral) bytes = refl
shown-same shows.OneMore bytes = refl
shown-same shows.AllDigits bytes = refl
shown-same (shows.Literal text) bytes = refl
shown-same shows.Digits bytes = refl
shown-same shows.PrefixedDigits bytes = refl
shown-same shows.Guid bytes = refl
shown-same shows.HardwareId bytes = refl
shown-same shows.Ipv4 bytes = refl
shown-same shows.Ipv6 bytes = refl
shown-same (shows.Ascii before) bytes = refl
shown-same shows.LoneAscii bytes = refl
shown-same shows.Units bytes = refl
shown-same (shows.Each len item) bytes = refl
shown-same (shows.Whole encoding) bytes = refl

fields-same : (fields : List Field) (body : List ℕ) → fields_text (map plain_field fields) body ≡ fields_text fields body
fields-same fields body =
    ap (join_with_byte comma) (map-same (λ field. field_text field body) plain_field (λ field. shown-same field.show (part field.at field.len body)) fields)

-- ---- forms

pub form-same : (form : Form) (body : List ℕ) → form_text (plain_form form) body ≡ form_text form body
form-same form body = ap (λ (text : List ℕ). form.name.now ++ (codes "(" ++ (text ++ codes ")"))) (fields-same form.fields.now body)

holds-same : (when : When) (body : List ℕ) → holds (plain_when when) body ≡ holds when body
holds-same Always body = refl
holds-same (Byte at mask is) body = refl
holds-same (Unlike at mask is) body = refl
holds-same (Bytes at are) body = refl
holds-same (BytesAndByte are at mask is) body = refl

pub fits-same : (body : List ℕ) (form : Form) → fits body (plain_form form) ≡ fits body form
fits-same body form = ap (λ b. allows form.len (length body) && b) (holds-same form.when body)

-- ---- rows

row_in-same : (kind sub : ℕ) (group : NodeGroup) → row_in kind sub (plain_group group) ≡ option_map plain_row (row_in kind sub group)
row_in-same kind sub group = go (group.kind == kind)
  where
    go : (b : Bool) → cond b (find (λ row. row.sub == sub) (map plain_row group.rows.now)) None
        ≡ option_map plain_row (cond b (find (λ row. row.sub == sub) group.rows.now) None)
    go true = find-same (λ row. row.sub == sub) plain_row (λ row. refl) group.rows.now
    go false = refl

among-same : (kind sub : ℕ) (groups : List NodeGroup) → row_among kind sub (map plain_group groups) ≡ option_map plain_row (row_among kind sub groups)
among-same kind sub [] = refl
among-same kind sub (group ∷ groups) = rw (row_in-same kind sub group, among-same kind sub groups) (go (row_in kind sub group))
  where
    go : (row : Option NodeRow) → option_or (option_map plain_row row) (option_map plain_row (row_among kind sub groups))
        ≡ option_map plain_row (option_or row (row_among kind sub groups))
    go None = refl
    go (Some row) = refl

pub row_for-same : (table : NodeTable) (kind sub : ℕ) → row_for (plain_table table) kind sub ≡ option_map plain_row (row_for table kind sub)
row_for-same table kind sub = among-same kind sub table.groups

-- ---- what each table is to keep to

types-same : (groups : List NodeGroup) → flat_map types_in (map plain_group groups) ≡ flat_map types_in groups
types-same [] = refl
types-same (group ∷ groups) =
    ap (λ (types : List ℕ). types ++ flat_map types_in (map plain_group groups))
    (map-same (λ row. group.kind * 0x100 + row.sub) plain_row (λ row. refl) group.rows.now)
    ∙ ap (λ (types : List ℕ). types_in group ++ types) (types-same groups)

pub is_table : (table : NodeTable) → plain_table table ≡ standard_table → IsTable standard_table → IsTable table
is_table table is standard =
    ap are_distinct (sym (types-same table.groups)) ∙ ap (λ (t : NodeTable). are_distinct (flat_map types_in t.groups)) is ∙ standard

all-same : {X : Type 0} (test : X → Bool) (change : X → X) → ((x : X) → test (change x) ≡ test x) → (xs : List X) → list_all test (map change xs) ≡ list_all test xs
all-same test change same [] = refl
all-same test change same (x ∷ xs) =
    ap (λ b. b && list_all test (map change xs)) (same x) ∙ ap (λ b. test x && b) (all-same test change same xs)

whole-same : (form : Form) → is_whole (plain_form form) ≡ is_whole form
whole-same form = all-same (is_within (least form.len)) plain_field (λ field. refl) form.fields.now

abbrev row_is_whole : NodeRow → Bool
row_is_whole row = list_all is_whole row.forms.now

abbrev group_is_whole : NodeGroup → Bool
group_is_whole group = list_all row_is_whole group.rows.now

row_whole-same : (row : NodeRow) → row_is_whole (plain_row row) ≡ row_is_whole row
row_whole-same row = all-same is_whole plain_form whole-same row.forms.now

group_whole-same : (group : NodeGroup) → group_is_whole (plain_group group) ≡ group_is_whole group
group_whole-same group = all-same row_is_whole plain_row row_whole-same group.rows.now

pub are_whole : (table : NodeTable) → plain_table table ≡ standard_table → AreWhole standard_table → AreWhole table
are_whole table is standard =
    sym (all-same group_is_whole plain_group group_whole-same table.groups) ∙ ap (λ (t : NodeTable). list_all group_is_whole t.groups) is ∙ standard
