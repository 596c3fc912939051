use Rattle.uefi_path.specs.Reader.{node_of}
use Rattle.uefi_path.proofs.Inverse.{node_of_has_row}
use Rattle.uefi_path.proofs.laws.each_row_is_a_nodes.Goals as goal

pub returns : goal.returns
returns c = λ r is no_end. let has = node_of_has_row r is no_end in (node_of r, has.0, has.1)
