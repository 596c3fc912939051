use Rattle.uefi_names.proofs.Back.{path_back}
use Rattle.uefi_names.proofs.laws.a_printed_path_is_read_back.Goals as goal

pub returns : goal.returns
returns c = λ table path is. path_back c.a_printed_segment_stands_for_the_node.ensures table path is
