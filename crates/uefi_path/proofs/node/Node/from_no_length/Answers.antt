use Rattle.std.proofs.Common.{◌≡◌, None, sym, ap, ◌∙◌, arith}
use Rattle.std.proofs.lemmas.Grind.{common_steps}
use Rattle.uefi_path.specs.Row.{row}
use Rattle.uefi_path.specs.Reader.{list_node_of, node_of}
use Rattle.uefi_path.proofs.Bytes.{recursion_from_bytes}
use Rattle.uefi_path.proofs.Inverse.{unlisted_name, none_listed, other_of_row}
use Rattle.uefi_path.proofs.node.Node.from_no_length.Goals.{
  in_default-via-in-1-eq4+else-body-ge-GUID_LEN,
  in_default-via-in-1+in_default,
  in_default-via-in-3-eq10+else-body-ge-GUID_LEN-2,
  in_default-via-in-3+in_default,
  in_default-via-in-4-eq3+else-body-ge-GUID_LEN-3,
  in_default-via-in-4-eq4+else-is_path_name,
  in_default-via-in-4+in_default,
  in_default-via-in_default,
}
use Rattle.uefi_path.proofs.node.Node.from_no_length.Goals as goal

pub new-requires : goal.new-requires
new-requires c =
    let r = row c.args.kind c.args.sub c.args.body.now in
    let no_list : list_node_of r ≡ None = elim c.in_default.branch [
      | in_default-via-in-1-eq4+else-body-ge-GUID_LEN w ↦ grind (arith, common_steps)
      | in_default-via-in-1+in_default w ↦ grind (arith, common_steps)
      | in_default-via-in-3-eq10+else-body-ge-GUID_LEN-2 w ↦ grind (arith, common_steps)
      | in_default-via-in-3+in_default w ↦ grind (arith, common_steps)
      | in_default-via-in-4-eq3+else-body-ge-GUID_LEN-3 w ↦ grind (arith, common_steps)
      | in_default-via-in-4-eq4+else-is_path_name w ↦ rw (w.in-4-eq4.is-0, w.in-4-eq4.is-1)
          (unlisted_name c.args.body.now (sym w.is_path_name.ensures ∙ w.if-is_path_name.false))
      | in_default-via-in-4+in_default w ↦ grind (arith, common_steps)
      | in_default-via-in_default w ↦ grind (arith, common_steps)
    ] in
    record {
      row = record {
        kind = omega arith;
        sub = omega arith;
        body = recursion_from_bytes c.args.body.now
            (λ i. omega (arith, c.type_inv.body i));
        len = c.requires.len;
      };
      no_end = c.requires.no_end;
      unlisted = none_listed r c.requires.no_length no_list;
    }

pub returns-in_ok-new-in_default : goal.returns-in_ok-new-in_default
returns-in_ok-new-in_default c =
    let made = c.in_ok-new-in_default.ensures in
    other_of_row c.in_ok-new-in_default.field-0 made.valid ∙ ap node_of made.made
