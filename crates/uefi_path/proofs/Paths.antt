-- Paths as rows, one more row of a path, and the one path of some bytes.
use Rattle.std.proofs.Common.{◌≡◌, ℕ, cond, eqb, List, [], ◌∷◌, ◌++◌, length, map, drop, refl, sym, ap, ◌∙◌, inl, inr, append_assoc, arith}
use Rattle.std.specs.List.{flat_map, AllByRecursion}
use Rattle.std.proofs.lemmas.Bool.{ne_eqb}
use Rattle.std.proofs.lemmas.List.{append-nil, map-append, take-append-drop, length-take-le}
use Rattle.std.proofs.lemmas.List.Concat.{flat_map-append}
use Rattle.uefi_path.specs.declared.node.Node.{Node}
use Rattle.uefi_path.specs.declared.fault.PathFault.{PathFault}
use Rattle.uefi_path.specs.Row.{Row, IsByte, IsRow, row_bytes, end_instance, end_entire}
use Rattle.uefi_path.specs.Node.{row_of, node_bytes, IsNode}
use Rattle.uefi_path.specs.Path.{IsPath, IsPathFront, separator, path_bytes, path_rows}
use Rattle.uefi_path.specs.Fault.{IsBeforeEnd, IsFirstFault}
use Rattle.uefi_path.specs.Reader.{node_of}
use Rattle.uefi_path.proofs.Bytes.{AllByRecursion-append}
use Rattle.uefi_path.proofs.Inverse.{node_of-row_of, node_of_has_row, row_of_is_row}
use Rattle.uefi_path.proofs.Rows.{same_rows, entire_stops, entire_is_row, instance_is_row, same_parts}
use Rattle.uefi_path.proofs.Faults.{first_fault_stops, no_fault_at_end}

-- ---- the bytes of a path are those of its rows, and of the end of the whole path

flat_map_rows : (nodes : List Node) → flat_map row_bytes (map row_of nodes) ≡ flat_map node_bytes nodes
flat_map_rows [] = refl
flat_map_rows (node ∷ nodes) = ap (λ (t : List ℕ). node_bytes node ++ t) (flat_map_rows nodes)

rows_from : (nodes : List Node) (rows : List Row) → flat_map row_bytes (map row_of nodes ++ rows) ≡ flat_map node_bytes nodes ++ flat_map row_bytes rows
rows_from nodes rows = flat_map-append row_bytes (map row_of nodes) rows ∙ ap (λ (t : List ℕ). t ++ flat_map row_bytes rows) (flat_map_rows nodes)

pub path_bytes-rows : (nodes : List Node) (others : List (List Node)) →
    path_bytes (nodes ∷ others) ≡ flat_map row_bytes (path_rows (nodes ∷ others)) ++ row_bytes end_entire
path_bytes-rows nodes [] =
    let rows : flat_map row_bytes (path_rows (nodes ∷ [])) ≡ flat_map node_bytes nodes = rows_from nodes [] ∙ append-nil (flat_map node_bytes nodes) in
    sym (ap (λ (t : List ℕ). t ++ row_bytes end_entire) rows)
path_bytes-rows nodes (more ∷ others) =
    let next : path_bytes (more ∷ others) ≡ flat_map row_bytes (path_rows (more ∷ others)) ++ row_bytes end_entire = path_bytes-rows more others in
    let rows : flat_map row_bytes (path_rows (nodes ∷ more ∷ others)) ≡ flat_map node_bytes nodes
    ++ (row_bytes end_instance ++ flat_map row_bytes (path_rows (more ∷ others))) =
    rows_from nodes (end_instance ∷ path_rows (more ∷ others)) in
    ap (λ (t : List ℕ). flat_map node_bytes nodes ++ (row_bytes end_instance ++ t)) next
    ∙ sym (ap (λ (t : List ℕ). t ++ row_bytes end_entire) rows ∙ append_assoc (flat_map node_bytes nodes)
    (row_bytes end_instance ++ flat_map row_bytes (path_rows (more ∷ others))) (row_bytes end_entire))

-- ---- one more row

separator_push : (instances : List (List Node)) (nodes : List Node) → separator (instances ++ nodes ∷ []) ≡ end_instance ∷ []
separator_push [] nodes = refl
separator_push (i ∷ instances) nodes = refl

pub path_rows_node : (instances : List (List Node)) (nodes : List Node) (node : Node) →
    path_rows (instances ++ (nodes ++ node ∷ []) ∷ []) ≡ path_rows (instances ++ nodes ∷ []) ++ row_of node ∷ []
path_rows_node [] nodes node =
    append-nil (map row_of (nodes ++ node ∷ [])) ∙ map-append row_of nodes (node ∷ [])
    ∙ ap (λ (t : List Row). t ++ row_of node ∷ []) (sym (append-nil (map row_of nodes)))
path_rows_node (i ∷ instances) nodes node =
    rw (
      separator_push instances (nodes ++ node ∷ []),
      separator_push instances nodes,
      path_rows_node instances nodes node,
    )
    (sym (append_assoc (map row_of i) (end_instance ∷ path_rows (instances ++ nodes ∷ [])) (row_of node ∷ [])))

pub path_rows_instance : (instances : List (List Node)) (nodes : List Node) →
    path_rows ((instances ++ nodes ∷ []) ++ [] ∷ []) ≡ path_rows (instances ++ nodes ∷ []) ++ end_instance ∷ []
path_rows_instance [] nodes = ap (λ (t : List Row). t ++ end_instance ∷ []) (sym (append-nil (map row_of nodes)))
path_rows_instance (i ∷ instances) nodes =
    rw (
      separator_push (instances ++ nodes ∷ []) [],
      separator_push instances nodes,
      path_rows_instance instances nodes,
    )
    (sym (append_assoc (map row_of i) (end_instance ∷ path_rows (instances ++ nodes ∷ [])) (end_instance ∷ [])))

-- ---- rows that are before the end

pub node_is_inner : (node : Node) → IsNode node → IsBeforeEnd (row_of node)
node_is_inner node valid = let is = row_of_is_row node valid in record { row = is.0; no_end = inl is.1 }

nodes_are_inner : (nodes : List Node) → AllByRecursion IsNode nodes → AllByRecursion IsBeforeEnd (map row_of nodes)
nodes_are_inner [] valid = tt
nodes_are_inner (node ∷ nodes) valid = (node_is_inner node valid.0, nodes_are_inner nodes valid.1)

separator_is_inner : (others : List (List Node)) → AllByRecursion IsBeforeEnd (separator others)
separator_is_inner [] = tt
separator_is_inner (_ ∷ _) = (record { row = instance_is_row; no_end = inr refl }, tt)

pub path_rows_are_inner : (instances : List (List Node)) → AllByRecursion (AllByRecursion IsNode) instances → AllByRecursion IsBeforeEnd (path_rows instances)
path_rows_are_inner [] valid = tt
path_rows_are_inner (nodes ∷ others) valid =
    AllByRecursion-append IsBeforeEnd (map row_of nodes) (separator others ++ path_rows others) (nodes_are_inner nodes valid.0)
    (AllByRecursion-append IsBeforeEnd (separator others) (path_rows others) (separator_is_inner others) (path_rows_are_inner others valid.1))

-- ---- the path of its rows

with_node : Node → List (List Node) → List (List Node)
with_node node [] = (node ∷ []) ∷ []
with_node node (nodes ∷ others) = (node ∷ nodes) ∷ others

instances_of : List Row → List (List Node)
instances_of [] = [] ∷ []
instances_of (r ∷ rows) = cond (eqb r.kind 127) ([] ∷ instances_of rows) (with_node (node_of r) (instances_of rows))

instances_of_nodes : (nodes first : List Node) (others : List (List Node)) (rows : List Row) →
    AllByRecursion IsNode nodes → instances_of rows ≡ first ∷ others →
    instances_of (map row_of nodes ++ rows) ≡ (nodes ++ first) ∷ others
unfolding instances_of with_node
instances_of_nodes [] first others rows valid e = e
instances_of_nodes (node ∷ nodes) first others rows valid e =
    rw (ne_eqb (row_of node).kind 127 (row_of_is_row node valid.0).1, instances_of_nodes nodes first others rows valid.1 e, node_of-row_of node valid.0) refl

instances_of-path_rows : (nodes : List Node) (others : List (List Node)) → AllByRecursion (AllByRecursion IsNode)
    (nodes ∷ others) → instances_of (path_rows (nodes ∷ others)) ≡ nodes ∷ others
unfolding instances_of with_node
instances_of-path_rows nodes [] valid =
    instances_of_nodes nodes [] [] [] valid.0 refl ∙ ap (λ (ns : List Node). ns ∷ []) (append-nil nodes)
instances_of-path_rows nodes (more ∷ others) valid =
    let next : instances_of (path_rows (more ∷ others)) ≡ more ∷ others = instances_of-path_rows more others valid.1 in
    instances_of_nodes nodes [] (more ∷ others) (end_instance ∷ path_rows (more ∷ others)) valid.0
    (ap (λ (is : List (List Node)). [] ∷ is) next) ∙ ap (λ (ns : List Node). ns ∷ more ∷ others) (append-nil nodes)

-- rows that are before the end of a path are those of some path
path_of : (rows : List Row) → AllByRecursion IsBeforeEnd rows → (first : List Node) × (others : List (List Node))
    × AllByRecursion (AllByRecursion IsNode) (first ∷ others) × (path_rows (first ∷ others) ≡ rows)
path_of [] inner = ([], [], (tt, tt), refl)
path_of (r ∷ rows) inner =
    let rest = path_of rows inner.1 in
    elim inner.0.no_end [
      | inl node ↦
          let has = node_of_has_row r inner.0.row node in (
            node_of r ∷ rest.0,
            rest.1,
            ((has.0, rest.2.0), rest.2.1),
            ap (λ (q : Row). q ∷ path_rows (rest.0 ∷ rest.1)) has.1 ∙ ap (λ (rs : List Row). r ∷ rs) rest.3,
          )
      | inr ends ↦ ([], rest.0 ∷ rest.1, (tt, rest.2), ap (λ (q : Row). q ∷ path_rows (rest.0 ∷ rest.1)) (sym ends) ∙ ap (λ (rs : List Row). r ∷ rs) rest.3)
    ]

pub some_path : (rows : List Row) → AllByRecursion IsBeforeEnd rows → (path : List (List Node)) × IsPath path × (path_rows path ≡ rows)
some_path rows inner = let p = path_of rows inner in (p.0 ∷ p.1, record { some = λ e. cc; nodes = p.2 }, p.3)

-- ---- the one path of some bytes

pub path_bytes_of_rows : (instances : List (List Node)) → IsPath instances → path_bytes instances ≡ flat_map row_bytes
    (path_rows instances) ++ row_bytes end_entire
path_bytes_of_rows [] is = absurd (is.some refl)
path_bytes_of_rows (nodes ∷ others) is = path_bytes-rows nodes others

pub rows_of_path : (instances : List (List Node)) (behind : List ℕ) → IsPath instances →
    path_bytes instances ++ behind ≡ flat_map row_bytes (path_rows instances) ++ (row_bytes end_entire ++ behind)
rows_of_path instances behind is =
    ap (λ (t : List ℕ). t ++ behind) (path_bytes_of_rows instances is) ∙ append_assoc (flat_map row_bytes (path_rows instances)) (row_bytes end_entire) behind

pub same_instances : (p q : List (List Node)) → IsPath p → IsPath q → path_rows p ≡ path_rows q → p ≡ q
same_instances [] q is-p is-q e = absurd (is-p.some refl)
same_instances (n ∷ p) [] is-p is-q e = absurd (is-q.some refl)
same_instances (n ∷ p) (m ∷ q) is-p is-q e =
    sym (instances_of-path_rows n p is-p.nodes) ∙ ap instances_of e ∙ instances_of-path_rows m q is-q.nodes

pub same_path : (p q : List (List Node)) (x y : List ℕ) → IsPath p → IsPath q → path_bytes p ++ x ≡ path_bytes q ++ y → (p ≡ q) × (x ≡ y)
same_path p q x y is-p is-q e =
    let rows = same_rows (path_rows p) (path_rows q) (row_bytes end_entire ++ x) (row_bytes end_entire ++ y)
    (path_rows_are_inner p is-p.nodes) (path_rows_are_inner q is-q.nodes)
    (entire_stops x) (entire_stops y) (sym (rows_of_path p x is-p) ∙ e ∙ rows_of_path q y is-q) in
    (same_instances p q is-p is-q rows.0, (same_parts (row_bytes end_entire) (row_bytes end_entire) x y refl rows.1).1)

-- what begins with a path has no first fault
pub no_fault_before : (input : List ℕ) (f : PathFault) (p : List (List Node)) (behind : List ℕ) → IsPath p →
    input ≡ path_bytes p ++ behind → IsFirstFault input f → ⊥
no_fault_before input f p behind is e first =
    let rows = same_rows first.before (path_rows p) first.rest (row_bytes end_entire ++ behind) first.inner
    (path_rows_are_inner p is.nodes) (first_fault_stops input f first) (entire_stops behind)
    (sym first.parts ∙ e ∙ rows_of_path p behind is) in
    no_fault_at_end f (length (flat_map row_bytes first.before)) first.rest behind first.fault_at rows.1

-- ---- prefixes of the input

pub front_splits : (input : List ℕ) (p : List (List Node)) (n : ℕ) → IsPathFront input p n → input ≡ path_bytes p ++ drop n input
front_splits input p n front = sym (take-append-drop n input) ∙ ap (λ (t : List ℕ). t ++ drop n input) front.spelled.1

pub front_len : (input : List ℕ) (p : List (List Node)) (n : ℕ) → IsPathFront input p n → n ≡ length (path_bytes p)
front_len input p n front = sym (length-take-le n input front.within) ∙ ap length front.spelled.1

pub same_front : (input : List ℕ) (p q : List (List Node)) (m n : ℕ) → IsPathFront input p m → IsPathFront input q n → (p ≡ q) × (m ≡ n)
same_front input p q m n first second =
    let same = same_path p q (drop m input) (drop n input) first.spelled.0 second.spelled.0
    (sym (front_splits input p m first) ∙ front_splits input q n second) in
    (same.0, front_len input p m first ∙ ap (λ (r : List (List Node)). length (path_bytes r)) same.0 ∙ sym (front_len input q n second))

pub no_fault_at_front : (input : List ℕ) (f : PathFault) (p : List (List Node)) (n : ℕ) → IsPathFront input p n → IsFirstFault input f → ⊥
no_fault_at_front input f p n front first = no_fault_before input f p (drop n input) front.spelled.0 (front_splits input p n front) first

-- ---- the bytes of a path are bytes

pub row_bytes_are_bytes : (r : Row) → IsRow r → AllByRecursion IsByte (row_bytes r)
row_bytes_are_bytes r is = (is.kind, (is.sub, (omega arith, (omega arith, is.body))))

rows_are_bytes : (rows : List Row) → AllByRecursion IsBeforeEnd rows → AllByRecursion IsByte (flat_map row_bytes rows)
rows_are_bytes [] inner = tt
rows_are_bytes (r ∷ rows) inner = AllByRecursion-append IsByte (row_bytes r) (flat_map row_bytes rows)
    (row_bytes_are_bytes r inner.0.row) (rows_are_bytes rows inner.1)

pub path_bytes_are_bytes : (path : List (List Node)) → IsPath path → AllByRecursion IsByte (path_bytes path)
path_bytes_are_bytes path is =
    let rows = path_rows path in
    let whole : path_bytes path ≡ flat_map row_bytes rows ++ row_bytes end_entire = path_bytes_of_rows path is in
    rw whole (AllByRecursion-append IsByte (flat_map row_bytes rows) (row_bytes end_entire)
    (rows_are_bytes rows (path_rows_are_inner path is.nodes)) (row_bytes_are_bytes end_entire entire_is_row))
