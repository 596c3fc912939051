use Rattle.uefi_path.proofs.Paths.{path_bytes_of_rows}
use Rattle.uefi_path.proofs.laws.a_path_is_its_rows.Goals as goal

pub returns : goal.returns
returns c = path_bytes_of_rows
