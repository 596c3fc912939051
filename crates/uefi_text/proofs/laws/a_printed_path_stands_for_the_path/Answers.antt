use Rattle.uefi_text.proofs.Means.PrintedPaths.{path_printed}
use Rattle.uefi_text.proofs.laws.a_printed_path_stands_for_the_path.Goals as goal

pub returns : goal.returns
returns c = λ path valid. path_printed c.each_node_is_spelled.ensures path valid
