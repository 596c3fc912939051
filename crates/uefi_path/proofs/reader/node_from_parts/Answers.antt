use Rattle.std.proofs.Common.{◌≡◌, ◌≤◌, length, ap, sym, ◌∙◌, inl, arith, Result, Ok}
use Rattle.uefi_path.specs.declared.node.Node.{Node}
use Rattle.uefi_path.specs.declared.fault.NodeFault.{NodeFault}
use Rattle.uefi_path.specs.Standard.{body_max}
use Rattle.uefi_path.specs.Row.{Row, IsRow, row}
use Rattle.uefi_path.specs.Node.{row_of}
use Rattle.uefi_path.specs.Reader.{node_of}
use Rattle.uefi_path.proofs.Bytes.{recursion_from_bytes}
use Rattle.uefi_path.proofs.Inverse.{node_of_has_row, node_of-row_of, row_of_is_row}
use Rattle.uefi_path.proofs.reader.node_from_parts.Goals as goal

pub returns-clause-made : goal.returns-clause-made
returns-clause-made c =
    let is : IsRow (row c.args.kind c.args.sub c.args.body.now) = record {
      kind = omega arith;
      sub = omega arith;
      body = recursion_from_bytes c.args.body.now (λ i. omega (arith, c.type_inv.body i));
      len = omega arith;
    } in
    rw c.in_ok-from_parts.ensures (node_of_has_row (row c.args.kind c.args.sub c.args.body.now) is c.if-kind-eq-END.false)

pub returns-then-body-gt-BODY_MAX-clause-only : goal.returns-then-body-gt-BODY_MAX-clause-only
returns-then-body-gt-BODY_MAX-clause-only c = λ node valid same.
    let short : length (row_of node).body ≤ body_max = (row_of_is_row node valid).0.len in
    let here : length (row_of node).body ≡ length c.args.body.now = ap (λ (r : Row). length r.body) same in
    absurd (omega (arith, c.if-body-gt-BODY_MAX.true, short, here))

pub returns-clause-only : goal.returns-clause-only
returns-clause-only c = λ node valid same.
    let made : c.in_ok-from_parts.field-0 ≡ node = c.in_ok-from_parts.ensures ∙ ap node_of (sym same) ∙ node_of-row_of node valid in
    inl (ap (λ (n : Node). let ok : Result Node NodeFault = Ok n in ok) made)
