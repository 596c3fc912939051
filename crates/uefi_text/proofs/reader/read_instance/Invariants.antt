use Rattle.std.proofs.Common.{◌≤◌, length}
use Rattle.uefi_text.proofs.Read.Instances.{IsReading}
use Rattle.uefi_text.proofs.reader.read_instance.Given as goal

abbrev pub invariant-loop-nodes : goal.invariant-loop-nodes
invariant-loop-nodes l = IsReading l.text l.nodes.items l.rest × (length l.rest ≤ l.len)

abbrev pub decreases-loop-nodes : goal.decreases-loop-nodes
decreases-loop-nodes l = length l.rest
