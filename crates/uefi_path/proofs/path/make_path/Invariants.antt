use Rattle.std.proofs.Common.{map, take}
use Rattle.std.specs.List.{AllByRecursion}
use Rattle.uefi_path.specs.Node.{IsNode}
use Rattle.uefi_path.proofs.path.make_path.Given as goal

abbrev pub invariant-loop-nodes : goal.invariant-loop-nodes
invariant-loop-nodes l = AllByRecursion (AllByRecursion IsNode) (map (λ nodes. nodes.items) (take l.nodes-index l.nodes-items))
