use Rattle.std.proofs.Common.{take}
use Rattle.std.specs.List.{AllByRecursion}
use Rattle.uefi_path.specs.Node.{IsNode}
use Rattle.uefi_path.proofs.path.look_at_each.Given as goal

abbrev pub invariant-loop-node : goal.invariant-loop-node
invariant-loop-node l = AllByRecursion IsNode (take l.node-index l.nodes)
