-- Going over the nodes of a path.
use Rattle.std.specs.Prelude.{List, ◌++◌, map}
use Rattle.std.specs.List.{flat_map}
use Rattle.uefi_path.specs.declared.node.Node.{Node}
use Rattle.uefi_path.specs.declared.path.Nodes.{Nodes}

-- the nodes of all instances, one after the other
abbrev pub all_nodes : List (List Node) → List Node
all_nodes instances = flat_map (λ nodes. nodes) instances

-- the nodes that are still to come
abbrev pub nodes_left : Nodes → List Node
nodes_left s = s.nodes.now ++ all_nodes (map (λ nodes. nodes.items) s.others.now)
