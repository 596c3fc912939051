-- The printed text of a path stands for it.
use Rattle.std.proofs.Common.{List, [], ◌∷◌, map, refl}
use Rattle.std.specs.List.{AllByRecursion}
use Rattle.uefi_path.specs.declared.node.Node.{Node}
use Rattle.uefi_path.specs.Node.{IsNode}
use Rattle.uefi_path.specs.Path.{IsPath}
use Rattle.uefi_text.specs.Bytes.{Each}
use Rattle.uefi_text.specs.Path.{IsNodeText, IsPathText}
use Rattle.uefi_text.specs.Printed.{segment_of, canonical}
use Rattle.uefi_text.proofs.Means.PrintedNodes.{EachNodeIsSpelled, segment_stands}

pub instance_printed : EachNodeIsSpelled → (nodes : List Node) → AllByRecursion IsNode nodes → Each IsNodeText (map segment_of nodes) nodes
instance_printed law [] valid = tt
instance_printed law (node ∷ nodes) valid = (segment_stands law node valid.0, instance_printed law nodes valid.1)

pub instances_printed : EachNodeIsSpelled → (path : List (List Node)) → AllByRecursion (AllByRecursion IsNode) path →
    Each (Each IsNodeText) (map (map segment_of) path) path
instances_printed law [] valid = tt
instances_printed law (nodes ∷ path) valid = (instance_printed law nodes valid.0, instances_printed law path valid.1)

pub path_printed : EachNodeIsSpelled → (path : List (List Node)) → IsPath path → IsPathText (canonical path) path
path_printed law path valid =
    record { valid = valid; cut = map (map segment_of) path; is = refl; nodes = instances_printed law path valid.nodes }
