-- What is printed by names is read as what was printed.
use Rattle.std.proofs.Common.{◌≡◌, ◌≢◌, ◌==◌, ℕ, Bool, true, false, List, [], ◌∷◌, map, refl, ap, sym, ◌∙◌, inl, inr, arith}
use Rattle.std.specs.Prelude.{Option, Some, None, unwrap_or, if◌then◌else◌}
use Rattle.std.specs.Cmp.Lexicographic.{pointwise}
use Rattle.std.specs.List.{AllByRecursion, join_with_byte}
use Rattle.std.specs.Option.{option_or}
use Rattle.std.proofs.lemmas.Bool.{and_parts, eqb-true}
use Rattle.uefi_path.specs.declared.node.Node.{Node}
use Rattle.uefi_path.specs.declared.node.Node.TheVariants as nodes
use Rattle.uefi_path.specs.Equality.{row_eq}
use Rattle.uefi_path.specs.Row.{Row, row_bytes}
use Rattle.uefi_path.specs.Node.{row_of, IsNode}
use Rattle.uefi_path.specs.Path.{IsPath}
use Rattle.uefi_text.specs.Bytes.{Each}
use Rattle.uefi_text.specs.Segment.{comma, slash}
use Rattle.uefi_text.specs.Node as means
use Rattle.uefi_text.specs.Printed.{segment_of, is_hd_or_file}
use Rattle.uefi_text.specs.Path.{IsNodeText}
use Rattle.uefi_text.proofs.Means.One.{BytesSpellOneNode}
use Rattle.uefi_text.proofs.Means.Paths.{path_text_one}
use Rattle.uefi_text.proofs.Means.Printed.{decimal_printed}
use Rattle.uefi_text.proofs.Means.Texts.{each_one}
use Rattle.uefi_names.specs.declared.table.NodeTable.{NodeTable}
use Rattle.uefi_names.specs.declared.table.Form.{Form}
use Rattle.uefi_names.specs.Table.{fits, forms_for}
use Rattle.uefi_names.specs.Shown.{form_text}
use Rattle.uefi_names.specs.Cut.{is_whole_for, cut_named}
use Rattle.uefi_names.specs.Named.{is_segment, is_row, is_read_back, table_text, text_in_forms, plain_segment, plain_text, named_node, named_instance, named_path}
use Rattle.uefi_names.specs.Reading.{segment_row, respelled, IsOneNode, IsAgain, IsExactSegment, IsNodeOf, IsNamedSegment, IsNamedText}
use Rattle.uefi_names.proofs.Pieces.{IsSegmentText, whole_for, path_again}
use Rattle.uefi_names.proofs.Exact.{exact_text, exact_named}

-- ---- a node

same_bytes : (xs ys : List ℕ) → pointwise ◌==◌ xs ys ≡ true → xs ≡ ys
same_bytes [] [] e = refl
same_bytes [] (_ ∷ _) e = cc
same_bytes (_ ∷ _) [] e = cc
same_bytes (x ∷ xs) (y ∷ ys) e =
    let both = and_parts (x == y) (pointwise ◌==◌ xs ys) e in
    let head : x ≡ y = eqb-true x y both.0 in
    let tail : xs ≡ ys = same_bytes xs ys both.1 in
    cc

same_row : (a b : Row) → row_eq a b ≡ true → a ≡ b
same_row a b e =
    let first = and_parts (a.kind == b.kind) _ e in
    let others = and_parts (a.sub == b.sub) (pointwise ◌==◌ a.body b.body) first.1 in
    let kind : a.kind ≡ b.kind = eqb-true a.kind b.kind first.0 in
    let sub : a.sub ≡ b.sub = eqb-true a.sub b.sub others.0 in
    let body : a.body ≡ b.body = same_bytes a.body b.body others.1 in
    λ i. record { kind = kind i; sub = sub i; body = body i }

-- a text is that of a segment, and stands for the node
pub record IsTextOf (table : NodeTable) (text : List ℕ) (node : Node) : Type 0 where
  pub segment : IsSegmentText text
  pub named : IsNamedSegment table text node

read_row : (table : NodeTable) (text : List ℕ) (node : Node) → IsNode node → (found : Option Row) → segment_row table text ≡ found → is_row found (row_of node) ≡ true → IsNamedSegment table text node
read_row table text node valid None is e = cc
read_row table text node valid (Some read) is e = rw is (valid, sym (same_row read (row_of node) e))

no_text : (table : NodeTable) (text : List ℕ) (r : Row) → is_row (segment_row table text) r ≡ true → text ≢ []
no_text table [] r e none = cc
no_text table (byte ∷ text) r e none = cc

read_back : (table : NodeTable) (text : List ℕ) (node : Node) → IsNode node → is_read_back table text (row_of node) ≡ true → IsTextOf table text node
read_back table text node valid e =
    let both = and_parts (is_segment text) (is_row (segment_row table text) (row_of node)) e in
    let whole = and_parts (is_whole_for comma text) (is_whole_for slash text) both.0 in
    record {
      segment = record { no_comma = whole_for comma text whole.0; no_slash = whole_for slash text whole.1; some = no_text table text (row_of node) both.1 };
      named = read_row table text node valid (segment_row table text) refl both.1;
    }

exactly : (table : NodeTable) (node : Node) → IsNodeText (plain_segment node) node → IsTextOf table (plain_text node) node
exactly table node is = record { segment = exact_text (plain_segment node) node is; named = exact_named table (plain_segment node) node is }

of_forms : (table : NodeTable) (node : Node) → IsNode node → IsNodeText (plain_segment node) node → (forms : List Form)
    → IsTextOf table (unwrap_or (text_in_forms table (row_of node) forms) (plain_text node)) node
of_forms table node valid is [] = exactly table node is
of_forms table node valid is (form ∷ forms) =
    go (fits (row_of node).body form) (is_read_back table (form_text form (row_of node).body) (row_of node)) refl (of_forms table node valid is forms)
  where
    go : (b c : Bool) → is_read_back table (form_text form (row_of node).body) (row_of node) ≡ c
        → IsTextOf table (unwrap_or (text_in_forms table (row_of node) forms) (plain_text node)) node
        → IsTextOf table (unwrap_or (option_or (if b then (if c then Some (form_text form (row_of node).body) else None) else None) (text_in_forms table (row_of node) forms)) (plain_text node)) node
    go true true e later = read_back table (form_text form (row_of node).body) node valid e
    go true false e later = later
    go false c e later = later

abbrev pub SegmentsStand : Type 0
SegmentsStand = (node : Node) → IsNode node → IsNodeText (segment_of node) node

plain_stands : SegmentsStand → (node : Node) → IsNode node → IsNodeText (plain_segment node) node
plain_stands law (nodes.Vlan id) valid =
    record { valid = valid; means = means.vlan (decimal_printed id (omega (arith, valid))) }
plain_stands law (nodes.Pci a b) valid = law (nodes.Pci a b) valid
plain_stands law (nodes.VendorHw a) valid = law (nodes.VendorHw a) valid
plain_stands law (nodes.Acpi a b) valid = law (nodes.Acpi a b) valid
plain_stands law (nodes.Usb a b) valid = law (nodes.Usb a b) valid
plain_stands law (nodes.VendorMsg a) valid = law (nodes.VendorMsg a) valid
plain_stands law (nodes.Mac a b) valid = law (nodes.Mac a b) valid
plain_stands law (nodes.Ipv4 a) valid = law (nodes.Ipv4 a) valid
plain_stands law (nodes.Sata a b c) valid = law (nodes.Sata a b c) valid
plain_stands law (nodes.Nvme a b) valid = law (nodes.Nvme a b) valid
plain_stands law (nodes.Uri a) valid = law (nodes.Uri a) valid
plain_stands law (nodes.HardDrive a) valid = law (nodes.HardDrive a) valid
plain_stands law (nodes.Cdrom a b c) valid = law (nodes.Cdrom a b c) valid
plain_stands law (nodes.VendorMedia a) valid = law (nodes.VendorMedia a) valid
plain_stands law (nodes.FilePath a) valid = law (nodes.FilePath a) valid
plain_stands law (nodes.Other a) valid = law (nodes.Other a) valid

either_text : (table : NodeTable) (node : Node) (is_plain : Bool) (text : List ℕ) → IsTextOf table (plain_text node) node → IsTextOf table text node
    → IsTextOf table (if is_plain then plain_text node else text) node
either_text table node true text plain by_form = plain
either_text table node false text plain by_form = by_form

pub named_text_of : SegmentsStand → (table : NodeTable) (node : Node) → IsNode node → IsTextOf table (named_node table node) node
named_text_of law table node valid =
    let is = plain_stands law node valid in
    either_text table node (is_hd_or_file node) (unwrap_or (table_text table (row_of node)) (plain_text node))
    (exactly table node is)
    (of_forms table node valid is (forms_for table (row_of node).kind (row_of node).sub))

-- ---- paths

nodes_back : SegmentsStand → (table : NodeTable) (all : List Node) → AllByRecursion IsNode all
    → Each (IsNamedSegment table) (map (named_node table) all) all × AllByRecursion IsSegmentText (map (named_node table) all)
nodes_back law table [] valid = (tt, tt)
nodes_back law table (node ∷ all) valid =
    let first = named_text_of law table node valid.0 in
    let more = nodes_back law table all valid.1 in
    ((first.named, more.0), (first.segment, more.1))

paths_back : SegmentsStand → (table : NodeTable) (path : List (List Node)) → AllByRecursion (AllByRecursion IsNode) path
    → Each (Each (IsNamedSegment table)) (map (map (named_node table)) path) path × AllByRecursion (AllByRecursion IsSegmentText) (map (map (named_node table)) path)
paths_back law table [] valid = (tt, tt)
paths_back law table (all ∷ path) valid =
    let first = nodes_back law table all valid.0 in
    let more = paths_back law table path valid.1 in
    ((first.0, more.0), (first.1, more.1))

texts_same : (table : NodeTable) (path : List (List Node)) → map (named_instance table) path ≡ map (join_with_byte slash) (map (map (named_node table)) path)
texts_same table [] = refl
texts_same table (all ∷ path) = ap (λ (more : List (List ℕ)). named_instance table all ∷ more) (texts_same table path)

map_some : {X Y : Type 0} (f : X → Y) (xs : List X) → xs ≢ [] → map f xs ≢ []
map_some f [] some = λ e. some refl
map_some f (x ∷ xs) some = λ e. cc

pub path_back : SegmentsStand → (table : NodeTable) (path : List (List Node)) → IsPath path → IsNamedText table (named_path table path) path
path_back law table path is =
    let back = paths_back law table path is.nodes in
    record {
      valid = is;
      nodes = rw (texts_same table path, path_again (map (map (named_node table)) path) back.1 (map_some (map (named_node table)) path is.some)) back.0;
    }

-- ---- one path for a text

first_of : (m n : Node) → ((m ∷ []) ∷ []) ≡ ((n ∷ []) ∷ []) → m ≡ n
first_of m n e = cc

one_exactly : BytesSpellOneNode → (text : List ℕ) (m n : Node) → IsOneNode text m → IsOneNode text n → m ≡ n
one_exactly law text m n p q = first_of m n (path_text_one law text ((m ∷ []) ∷ []) ((n ∷ []) ∷ []) p q)

one_again : BytesSpellOneNode → (again : Option (List ℕ)) (m n : Node) → IsAgain again m → IsAgain again n → m ≡ n
one_again law None m n p q = absurd p
one_again law (Some text) m n p q = one_exactly law text m n p q

exact_one : BytesSpellOneNode → (text : List ℕ) (m n : Node) → IsExactSegment text m → IsExactSegment text n → m ≡ n
exact_one law text m n (inl p) (inl q) = one_exactly law text m n p q
exact_one law text m n (inl p) (inr q) = absurd (q.0 m p)
exact_one law text m n (inr p) (inl q) = absurd (p.0 n q)
exact_one law text m n (inr p) (inr q) = one_again law (respelled text) m n p.1 q.1

of_one : BytesSpellOneNode → (read : Option Row) (text : List ℕ) (m n : Node) → IsNodeOf read text m → IsNodeOf read text n → m ≡ n
of_one law None text m n p q = exact_one law text m n p q
of_one law (Some r) text m n p q = law (row_bytes (row_of m)) m n (p.0, refl) (q.0, ap row_bytes (p.1 ∙ sym q.1))

segment_one : BytesSpellOneNode → (table : NodeTable) (text : List ℕ) (m n : Node) → IsNamedSegment table text m → IsNamedSegment table text n → m ≡ n
segment_one law table text m n p q = of_one law (segment_row table text) text m n p q

pub named_one : BytesSpellOneNode → (table : NodeTable) (text : List ℕ) (p q : List (List Node)) → IsNamedText table text p → IsNamedText table text q → p ≡ q
named_one law table text p q is also =
    each_one (Each (IsNamedSegment table)) (λ texts m n. each_one (IsNamedSegment table) (segment_one law table) texts m n) (cut_named text) p q is.nodes also.nodes
