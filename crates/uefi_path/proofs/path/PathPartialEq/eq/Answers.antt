use Rattle.std.proofs.Common.{List, Vec, Global, ◌∙◌}
use Rattle.std.specs.Cmp.Lexicographic.{pointwise}
use Rattle.uefi_path.specs.declared.node.Node.{Node}
use Rattle.uefi_path.proofs.Comparison.{node_eq, path_eq-Decides, pointwise-map}
use Rattle.uefi_path.proofs.path.PathPartialEq.eq.Goals as goal

abbrev nodes_of : Vec Node Global → List Node
nodes_of nodes = nodes.items

pub returns-clause-value : goal.returns-clause-value
returns-clause-value c =
    rw (← c.self.view_is, ← c.other.view_is)
    (c.eq.ensures ∙ pointwise-map (pointwise node_eq) nodes_of c.self.inside.instances.items c.other.inside.instances.items)

pub returns-clause-equal : goal.returns-clause-equal
returns-clause-equal c = path_eq-Decides c.args.self.now c.args.other.now c.eq.result (returns-clause-value c)
