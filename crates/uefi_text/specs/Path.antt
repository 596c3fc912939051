-- What the text of a path stands for.
use Rattle.std.specs.Prelude.{◌≡◌, ℕ, List}
use Rattle.uefi_path.specs.declared.node.Node.{Node}
use Rattle.uefi_path.specs.Node.{IsNode}
use Rattle.uefi_path.specs.Path.{IsPath}
use Rattle.uefi_text.specs.Bytes.{Each}
use Rattle.uefi_text.specs.Segment.{Segment, cut_text}
use Rattle.uefi_text.specs.Node.{MeansNode}

-- the segment stands for the node, whose numbers are in the ranges of their types
pub record IsNodeText (segment : Segment) (node : Node) : Type 0 where
  pub valid : IsNode node
  pub means : MeansNode segment node

-- the text can be cut so that its segments stand for the path's nodes, instance by instance
pub record IsPathText (text : List ℕ) (path : List (List Node)) : Type 0 where
  pub valid : IsPath path
  pub cut : List (List Segment)
  pub is : text ≡ cut_text cut
  pub nodes : Each (Each IsNodeText) cut path
