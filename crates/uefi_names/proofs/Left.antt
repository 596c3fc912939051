-- The text of nodes where they are in the bytes of a path: what is done, and what is left.
use Rattle.std.proofs.Common.{◌≡◌, ◌≢◌, ℕ, Bool, true, false, List, [], ◌∷◌, ◌++◌, map, append_assoc, append-nil, refl, ap, sym, ◌∙◌, arith, flat_map}
use Rattle.std.specs.List.{AllByRecursion}
use Rattle.uefi_path.specs.declared.node.Node.{Node}
use Rattle.uefi_path.specs.declared.node.Node.TheVariants as nodes
use Rattle.uefi_path.specs.Row.{Row, end_instance}
use Rattle.uefi_path.specs.Node.{row_of, IsNode}
use Rattle.uefi_path.specs.Path.{IsPath, path_rows, separator}
use Rattle.uefi_text.specs.Segment.{comma, slash}
use Rattle.uefi_names.specs.declared.table.NodeTable.{NodeTable}
use Rattle.uefi_names.specs.Named.{named_node, named_instance, named_path, slash_before}
use Rattle.uefi_names.proofs.Texts.{join-first}

-- the text of the nodes that are left of an instance
abbrev pub nodes_text : NodeTable → Bool → List Node → List ℕ
nodes_text table true left = named_instance table left
nodes_text table false left = flat_map (λ node. slash ∷ named_node table node) left

-- the text of the other instances that are left
abbrev pub others_text : NodeTable → List (List Node) → List ℕ
others_text table others = flat_map (λ instance. comma ∷ named_instance table instance) others

-- these rows are left, and the text of their nodes
pub record IsLeft (table : NodeTable) (path : List (List Node)) (done : List ℕ) (is_first : Bool) (rows : List Row) : Type 0 where
  pub left : List Node
  pub others : List (List Node)
  pub are : AllByRecursion IsNode left
  pub others-are : AllByRecursion (AllByRecursion IsNode) others
  pub rows-are : rows ≡ map row_of left ++ (separator others ++ path_rows others)
  pub text : done ++ (nodes_text table is_first left ++ others_text table others) ≡ named_path table path

pub all-left : (table : NodeTable) (path : List (List Node)) (rows : List Row) → IsPath path → rows ≡ path_rows path → IsLeft table path [] true rows
all-left table [] rows is e = absurd (is.some refl)
all-left table (first ∷ others) rows is e = record {
  left = first;
  others = others;
  are = is.nodes.0;
  others-are = is.nodes.1;
  rows-are = e;
  text = sym (join-first comma (named_instance table) first others);
}

-- no node has the type of an end
pub no-end : (node : Node) → IsNode node → (row_of node).kind ≢ 0x7F
no-end (nodes.Pci _ _) is = λ e. absurd (omega (arith, e))
no-end (nodes.VendorHw _) is = λ e. absurd (omega (arith, e))
no-end (nodes.Acpi _ _) is = λ e. absurd (omega (arith, e))
no-end (nodes.Usb _ _) is = λ e. absurd (omega (arith, e))
no-end (nodes.VendorMsg _) is = λ e. absurd (omega (arith, e))
no-end (nodes.Mac _ _) is = λ e. absurd (omega (arith, e))
no-end (nodes.Ipv4 _) is = λ e. absurd (omega (arith, e))
no-end (nodes.Sata _ _ _) is = λ e. absurd (omega (arith, e))
no-end (nodes.Vlan _) is = λ e. absurd (omega (arith, e))
no-end (nodes.Nvme _ _) is = λ e. absurd (omega (arith, e))
no-end (nodes.Uri _) is = λ e. absurd (omega (arith, e))
no-end (nodes.HardDrive _) is = λ e. absurd (omega (arith, e))
no-end (nodes.Cdrom _ _ _) is = λ e. absurd (omega (arith, e))
no-end (nodes.VendorMedia _) is = λ e. absurd (omega (arith, e))
no-end (nodes.FilePath _) is = λ e. absurd (omega (arith, e))
no-end (nodes.Other _) is = is.no_end

head-of : (r s : Row) (rows more : List Row) → r ∷ rows ≡ s ∷ more → r ≡ s
head-of r s rows more e = cc

tail-of : (r s : Row) (rows more : List Row) → r ∷ rows ≡ s ∷ more → rows ≡ more
tail-of r s rows more e = cc

no-row : {X : Type 0} (r : Row) (rows : List Row) → r ∷ rows ≡ [] → X
no-row r rows e = absurd cc

-- the end of an instance is done, if that comes first of what is left
instance-done : (table : NodeTable) (path : List (List Node)) (done : List ℕ) (is_first : Bool) (r : Row) (rows : List Row)
    (left : List Node) (others : List (List Node)) → AllByRecursion IsNode left → AllByRecursion (AllByRecursion IsNode) others
    → r ∷ rows ≡ map row_of left ++ (separator others ++ path_rows others)
    → done ++ (nodes_text table is_first left ++ others_text table others) ≡ named_path table path
    → r.kind ≡ 0x7F → IsLeft table path (done ++ (comma ∷ [])) true rows
instance-done table path done is_first r rows (node ∷ left) others are others-are e text end =
    absurd (no-end node are.0 (ap (λ row. row.kind) (sym (head-of r (row_of node) rows _ e)) ∙ end))
instance-done table path done is_first r rows [] [] are others-are e text end = no-row r rows e
instance-done table path done true r rows [] (next ∷ others) are others-are e text end = record {
  left = next;
  others = others;
  are = others-are.0;
  others-are = others-are.1;
  rows-are = tail-of r end_instance rows _ e;
  text = append_assoc done (comma ∷ []) (named_instance table next ++ others_text table others) ∙ text;
}
instance-done table path done false r rows [] (next ∷ others) are others-are e text end = record {
  left = next;
  others = others;
  are = others-are.0;
  others-are = others-are.1;
  rows-are = tail-of r end_instance rows _ e;
  text = append_assoc done (comma ∷ []) (named_instance table next ++ others_text table others) ∙ text;
}

pub end-done : (table : NodeTable) (path : List (List Node)) (done : List ℕ) (is_first : Bool) (r : Row) (rows all : List Row)
    → all ≡ r ∷ rows → r.kind ≡ 0x7F → IsLeft table path done is_first all → IsLeft table path (done ++ (comma ∷ [])) true rows
end-done table path done is_first r rows all begins end l =
    instance-done table path done is_first r rows l.left l.others l.are l.others-are (sym begins ∙ l.rows-are) l.text end

-- the text of the nodes that are left is that of the first and of the others
nodes-begin : (table : NodeTable) (is_first : Bool) (node : Node) (left : List Node)
    → nodes_text table is_first (node ∷ left) ≡ (slash_before is_first ++ named_node table node) ++ nodes_text table false left
nodes-begin table true node left = join-first slash (named_node table) node left
nodes-begin table false node left = refl

one-node-done : (table : NodeTable) (path : List (List Node)) (done new : List ℕ) (is_first : Bool) (r : Row) (rows : List Row)
    (left : List Node) (others : List (List Node)) → AllByRecursion IsNode left → AllByRecursion (AllByRecursion IsNode) others
    → r ∷ rows ≡ map row_of left ++ (separator others ++ path_rows others)
    → done ++ (nodes_text table is_first left ++ others_text table others) ≡ named_path table path
    → r.kind ≢ 0x7F
    → ((node : Node) → IsNode node → row_of node ≡ r → new ≡ done ++ (slash_before is_first ++ named_node table node))
    → IsLeft table path new false rows
one-node-done table path done new is_first r rows [] [] are others-are e text no_end writes = no-row r rows e
one-node-done table path done new is_first r rows [] (next ∷ others) are others-are e text no_end writes =
    absurd (no_end (ap (λ row. row.kind) (head-of r end_instance rows _ e)))
one-node-done table path done new is_first r rows (node ∷ left) others are others-are e text no_end writes =
    let wrote = slash_before is_first ++ named_node table node in
    let after = nodes_text table false left ++ others_text table others in
    record {
      left = left;
      others = others;
      are = are.1;
      others-are = others-are;
      rows-are = tail-of r (row_of node) rows _ e;
      text = ap (λ (front : List ℕ). front ++ after) (writes node are.0 (sym (head-of r (row_of node) rows _ e)))
          ∙ (append_assoc done wrote after
          ∙ (ap (λ (more : List ℕ). done ++ more) (sym (append_assoc wrote (nodes_text table false left) (others_text table others)))
          ∙ (ap (λ (more : List ℕ). done ++ (more ++ others_text table others)) (sym (nodes-begin table is_first node left)) ∙ text)));
    }

pub node-done : (table : NodeTable) (path : List (List Node)) (done new : List ℕ) (is_first : Bool) (r : Row) (rows all : List Row)
    → all ≡ r ∷ rows → r.kind ≢ 0x7F
    → ((node : Node) → IsNode node → row_of node ≡ r → new ≡ done ++ (slash_before is_first ++ named_node table node))
    → IsLeft table path done is_first all → IsLeft table path new false rows
node-done table path done new is_first r rows all begins no_end writes l =
    one-node-done table path done new is_first r rows l.left l.others l.are l.others-are (sym begins ∙ l.rows-are) l.text no_end writes

nothing-left : (table : NodeTable) (path : List (List Node)) (done : List ℕ) (is_first : Bool)
    (left : List Node) (others : List (List Node))
    → [] ≡ map row_of left ++ (separator others ++ path_rows others)
    → done ++ (nodes_text table is_first left ++ others_text table others) ≡ named_path table path
    → done ≡ named_path table path
nothing-left table path done true [] [] e text = sym (append-nil done) ∙ text
nothing-left table path done false [] [] e text = sym (append-nil done) ∙ text
nothing-left table path done is_first [] (next ∷ others) e text = no-row _ _ (sym e)
nothing-left table path done is_first (node ∷ left) others e text = no-row _ _ (sym e)

pub all-done : (table : NodeTable) (path : List (List Node)) (done : List ℕ) (is_first : Bool) (rows : List Row)
    → rows ≡ [] → IsLeft table path done is_first rows → done ≡ named_path table path
all-done table path done is_first rows none l =
    nothing-left table path done is_first l.left l.others (sym none ∙ l.rows-are) l.text
