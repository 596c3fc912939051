use Rattle.std.proofs.Common.{◌≡◌, ◌++◌, length, map}
use Rattle.std.specs.List.{AllByRecursion}
use Rattle.uefi_path.specs.Node.{IsNode}
use Rattle.uefi_path.specs.Path.{path_bytes}
use Rattle.uefi_path.specs.Writer.{Extends}
use Rattle.uefi_path.proofs.writer.append_path.Given as goal

abbrev pub invariant-loop-nodes : goal.invariant-loop-nodes
invariant-loop-nodes l = record {
  written : l.out.items ++ path_bytes (map (λ nodes. nodes.items) l.instances) ≡ l.fn.out.items ++ path_bytes l.path;
  valid : AllByRecursion (AllByRecursion IsNode) (map (λ nodes. nodes.items) l.instances) → AllByRecursion (AllByRecursion IsNode) l.path;
  extends : Extends l.fn.out.items l.out.items;
}

abbrev pub decreases-loop-nodes : goal.decreases-loop-nodes
decreases-loop-nodes l = length l.instances
