use Rattle.std.proofs.Common.{◌≡◌, map, take}
use Rattle.std.specs.List.{AllByRecursion}
use Rattle.uefi_path.specs.Node.{IsNode}
use Rattle.uefi_path.proofs.path.Path.copy.Given as goal

abbrev pub invariant-loop-nodes : goal.invariant-loop-nodes
invariant-loop-nodes l = record {
  copied : map (λ nodes. nodes.items) l.instances.items ≡ map (λ nodes. nodes.items) (take l.nodes-index l.nodes-items);
  valid : AllByRecursion (AllByRecursion IsNode) (map (λ nodes. nodes.items) (take l.nodes-index l.nodes-items));
}
