use Rattle.std.proofs.Common.{length, map}
use Rattle.uefi_text.proofs.Read.Instances.{IsReadingPath}
use Rattle.uefi_text.proofs.reader.read_instances.Given as goal

abbrev pub invariant-loop-instances : goal.invariant-loop-instances
invariant-loop-instances l = IsReadingPath l.text (map (λ nodes. nodes.items) l.instances.items) l.rest

abbrev pub decreases-loop-instances : goal.decreases-loop-instances
decreases-loop-instances l = length l.rest
