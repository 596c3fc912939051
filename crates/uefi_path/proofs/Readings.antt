-- What a reader of nodes has made of the rows of a path so far.
use Rattle.std.proofs.Common.{◌≡◌, ◌≢◌, List, [], ◌∷◌, ◌++◌, sym, ap, ◌∙◌, inl, inr, append_assoc}
use Rattle.std.specs.List.{AllByRecursion}
use Rattle.uefi_path.specs.declared.node.Node.{Node}
use Rattle.uefi_path.specs.Row.{Row, end_instance}
use Rattle.uefi_path.specs.Node.{row_of, IsNode}
use Rattle.uefi_path.specs.Path.{path_rows}
use Rattle.uefi_path.specs.Fault.{IsBeforeEnd}
use Rattle.uefi_path.specs.Reader.{node_of}
use Rattle.uefi_path.proofs.Bytes.{AllByRecursion-append}
use Rattle.uefi_path.proofs.Inverse.{node_of_has_row}
use Rattle.uefi_path.proofs.Paths.{path_rows_node, path_rows_instance}

-- The rows are those of the instances and of the open one, and those that are left.
pub record HasMade (rows : List Row) (instances : List (List Node)) (nodes : List Node) (left : List Row) : Type 0 where
  pub valid : AllByRecursion (AllByRecursion IsNode) (instances ++ nodes ∷ [])
  pub inner : AllByRecursion IsBeforeEnd left
  pub parts : path_rows (instances ++ nodes ∷ []) ++ left ≡ rows

in_last : (instances : List (List Node)) (nodes : List Node) (node : Node) → AllByRecursion (AllByRecursion IsNode)
    (instances ++ nodes ∷ []) → IsNode node → AllByRecursion (AllByRecursion IsNode) (instances ++ (nodes ++ node ∷ []) ∷ [])
in_last [] nodes node valid is = (AllByRecursion-append IsNode nodes (node ∷ []) valid.0 (is, tt), tt)
in_last (i ∷ instances) nodes node valid is = (valid.0, in_last instances nodes node valid.1 is)

pub one_node : (rows : List Row) (instances : List (List Node)) (nodes : List Node) (r : Row) (left : List Row)
    (node : Node) → HasMade rows instances nodes (r ∷ left) → r.kind ≢ 127 → node ≡ node_of r
    → HasMade rows instances (nodes ++ node ∷ []) left
one_node rows instances nodes r left node made inner is =
    let has = node_of_has_row r made.inner.0.row inner in
    let valid : IsNode node = rw is has.0 in
    let same : row_of node ≡ r = rw is has.1 in
    record {
      valid = in_last instances nodes node made.valid valid;
      inner = made.inner.1;
      parts = ap (λ (rs : List Row). rs ++ left)
          (path_rows_node instances nodes node ∙ ap (λ (q : Row). path_rows (instances ++ nodes ∷ []) ++ q ∷ []) same)
          ∙ append_assoc (path_rows (instances ++ nodes ∷ [])) (r ∷ []) left ∙ made.parts;
    }

-- a row of the type of end nodes that is before the end of a path
pub ends_instance : (r : Row) → IsBeforeEnd r → r.kind ≡ 127 → r ≡ end_instance
ends_instance r before kind = elim before.no_end [ inl other ↦ absurd (other kind) | inr one ↦ one ]

pub one_instance : (rows : List Row) (instances : List (List Node)) (nodes : List Node) (r : Row) (left : List Row) →
    HasMade rows instances nodes (r ∷ left) → r.kind ≡ 127
    → HasMade rows (instances ++ nodes ∷ []) [] left
one_instance rows instances nodes r left made kind = record {
  valid = AllByRecursion-append (AllByRecursion IsNode) (instances ++ nodes ∷ []) ([] ∷ []) made.valid (tt, tt);
  inner = made.inner.1;
  parts = ap (λ (rs : List Row). rs ++ left)
      (path_rows_instance instances nodes ∙ ap (λ (q : Row). path_rows (instances ++ nodes ∷ []) ++ q ∷ [])
      (sym (ends_instance r made.inner.0 kind)))
      ∙ append_assoc (path_rows (instances ++ nodes ∷ [])) (r ∷ []) left ∙ made.parts;
}
