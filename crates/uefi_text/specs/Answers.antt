-- For private functions of the reader: what a named segment is read as, and how it is refused.
use Rattle.std.specs.Prelude.{◌≡◌, ℕ, List, Option, Result, Ok, Err}
use Rattle.std.specs.List.{join_with_byte}
use Rattle.uefi_path.specs.Row.{Row}
use Rattle.uefi_path.specs.declared.node.Node.{Node}
use Rattle.uefi_text.specs.declared.fault.SegmentFault.{SegmentFault}
use Rattle.uefi_text.specs.Segment.{Segment, named, comma}
use Rattle.uefi_text.specs.Path.{IsNodeText}
use Rattle.uefi_text.specs.declared.segment.Segment as code
use Rattle.uefi_text.specs.Cuts.{IsCutOf}
use Rattle.uefi_text.specs.Reader.{Tells, IsOfRow}

-- a segment of this name, with this text between its parentheses, stands for the node
abbrev pub MeansNamed : List ℕ → List ℕ → Node → Type 0
MeansNamed name inside node =
    (arguments : List (List ℕ)) × (inside ≡ join_with_byte comma arguments) × IsNodeText (named name arguments) node

-- the node that such a segment stands for; a fault if there is none, and out of memory only if there is one
abbrev pub AnswersNamed : List ℕ → List ℕ → Result Node SegmentFault → Type 0
AnswersNamed name inside (Ok node) = MeansNamed name inside node
AnswersNamed name inside (Err fault) =
    Tells fault ((node : Node) → MeansNamed name inside node → ⊥) ((node : Node) × MeansNamed name inside node)

-- what was cut off is a segment that stands for the node
abbrev pub MeansCut : code.Segment → Node → Type 0
MeansCut cut node = (segment : Segment) × IsCutOf cut segment × IsNodeText segment node

-- the same of a segment that was cut off a text
abbrev pub AnswersSegment : code.Segment → Result Node SegmentFault → Type 0
AnswersSegment cut (Ok node) = MeansCut cut node
AnswersSegment cut (Err fault) = Tells fault ((node : Node) → MeansCut cut node → ⊥) ((node : Node) × MeansCut cut node)

-- the same of the row that is read
abbrev pub AnswersRow : Result Node SegmentFault → Option Row → Type 0
AnswersRow (Ok node) read = IsOfRow node read
AnswersRow (Err fault) read = Tells fault ((node : Node) → IsOfRow node read → ⊥) ((node : Node) × IsOfRow node read)
