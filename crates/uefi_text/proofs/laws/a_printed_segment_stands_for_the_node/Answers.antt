use Rattle.uefi_text.proofs.Means.PrintedNodes.{segment_stands}
use Rattle.uefi_text.proofs.laws.a_printed_segment_stands_for_the_node.Goals as goal

pub returns : goal.returns
returns c = λ node valid. segment_stands c.each_node_is_spelled.ensures node valid
