-- Device paths (UEFI 2.10, 10.2): instances of nodes, and their spelling with end nodes (10.3.1).
use Rattle.std.specs.Prelude.{◌≡◌, ◌≢◌, ℕ, List, [], ◌∷◌, ◌++◌, map, take, length, ◌≤◌}
use Rattle.std.specs.List.{flat_map, AllByRecursion}
use Rattle.uefi_path.specs.declared.node.Node.{Node}
use Rattle.uefi_path.specs.Row.{Row, row_bytes, end_instance, end_entire}
use Rattle.uefi_path.specs.Node.{row_of, IsNode, node_bytes}

-- there is an instance, and each node is one
pub record IsPath (instances : List (List Node)) : Type 0 where
  pub some : instances ≢ []
  pub nodes : AllByRecursion (AllByRecursion IsNode) instances

-- the node that closes an instance, by the instances that follow it
abbrev pub end_before : List (List Node) → Row
end_before [] = end_entire
end_before (_ ∷ _) = end_instance

-- the spelling of a path: each instance's nodes and then the node that closes it
abbrev pub path_bytes : List (List Node) → List ℕ
path_bytes [] = []
path_bytes (nodes ∷ others) =
    flat_map node_bytes nodes ++ (row_bytes (end_before others) ++ path_bytes others)

-- the bytes spell the path
abbrev pub SpellsPath : List ℕ → List (List Node) → Type 0
SpellsPath bytes instances = IsPath instances × (bytes ≡ path_bytes instances)

-- what parts an instance from those that follow it
abbrev pub separator : List (List Node) → List Row
separator [] = []
separator (_ ∷ _) = end_instance ∷ []

-- the rows of the nodes, with the end-instance node between two instances
abbrev pub path_rows : List (List Node) → List Row
path_rows [] = []
path_rows (nodes ∷ others) = map row_of nodes ++ (separator others ++ path_rows others)

-- the first n bytes of the input spell the path
pub record IsPathFront (input : List ℕ) (instances : List (List Node)) (n : ℕ) : Type 0 where
  pub within : n ≤ length input
  pub spelled : SpellsPath (take n input) instances
