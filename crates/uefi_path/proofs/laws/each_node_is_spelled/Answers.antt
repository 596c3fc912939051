use Rattle.std.proofs.Common.{refl, arith}
use Rattle.uefi_path.specs.Node.{row_of, node_bytes}
use Rattle.uefi_path.proofs.Paths.{row_bytes_are_bytes}
use Rattle.uefi_path.proofs.Inverse.{row_of_is_row}
use Rattle.uefi_path.proofs.laws.each_node_is_spelled.Goals as goal

pub returns : goal.returns
returns c = λ node is.
    let row = (row_of_is_row node is).0 in
    (node_bytes node, (is, refl), row_bytes_are_bytes (row_of node) row, omega (arith, row.len))
