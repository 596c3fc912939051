use Rattle.std.proofs.Common.{◌≡◌, Option, is_some, sym, ap, ◌∙◌, arith}
use Rattle.std.proofs.lemmas.Bool.{false≢true}
use Rattle.uefi_path.specs.declared.node.Node.{Node}
use Rattle.uefi_path.specs.Row.{IsRow, row}
use Rattle.uefi_path.specs.Reader.{fixed_node_of, list_node_of}
use Rattle.uefi_path.proofs.Bytes.{recursion_from_bytes}
use Rattle.uefi_path.proofs.Inverse.{fixed_node_found, list_node_found, found_is_listed, typed_node_listed, or_else}
use Rattle.uefi_path.proofs.node.Node.is_listed.Goals as goal
use Rattle.uefi_path.proofs.node.Node.is_listed.Goals.{Then-is_some, Else-is_some}

pub returns-then-is_some : goal.returns-then-is_some
returns-then-is_some c =
    let r = row c.args.kind c.args.sub c.args.body.now in
    let is : IsRow r = record {
      kind = omega arith;
      sub = omega arith;
      body = recursion_from_bytes c.args.body.now
          (λ i. omega (arith, c.type_inv.body i));
      len = c.requires;
    } in
    let some : is_some (fixed_node_of r) ≡ is_some c.from_one_length.result = ap (λ (found : Option Node). is_some found) (sym c.from_one_length.ensures) in
    (λ _. found_is_listed r (fixed_node_of r) (fixed_node_found r is) (some ∙ sym c.is_some.ensures ∙ c.if-is_some.true), λ _. c.if-is_some.true)

pub returns-else-is_some : goal.returns-else-is_some
returns-else-is_some c =
    let r = row c.args.kind c.args.sub c.args.body.now in
    let is : IsRow r = record {
      kind = omega arith;
      sub = omega arith;
      body = recursion_from_bytes c.args.body.now
          (λ i. omega (arith, c.type_inv.body i));
      len = c.requires;
    } in
    let some : is_some (fixed_node_of r) ≡ is_some c.from_one_length.result = ap (λ (found : Option Node). is_some found) (sym c.from_one_length.ensures) in (
      λ e. found_is_listed r (list_node_of r) (list_node_found r is) (sym c.is_of_a_list.ensures ∙ e),
      λ listed. c.is_of_a_list.ensures ∙ or_else (fixed_node_of r) (list_node_of r) (typed_node_listed r listed)
          (λ yes. false≢true (sym c.if-is_some.false ∙ c.is_some.ensures ∙ sym some ∙ yes)),
    )
