-- Why a text stands for no path, and where.
use Rattle.std.specs.Prelude.{◌≡◌, ◌≤◌, ◌⊎◌, ℕ, List, [], ◌∷◌, ◌++◌, length, flat_map}
use Rattle.uefi_path.specs.declared.node.Node.{Node}
use Rattle.uefi_text.specs.declared.fault.TextFault.{TextFault}
use Rattle.uefi_text.specs.declared.fault.TextFault.TheVariants.{BadSegment, BadNumber, OutOfRange, BadEnd, OutOfMemory}
use Rattle.uefi_text.specs.Bytes.{Each}
use Rattle.uefi_text.specs.Segment.{Segment, segment_text, instance_text, comma, slash}
use Rattle.uefi_text.specs.Path.{IsNodeText}

-- the text ends here, or goes on with this byte
abbrev pub EndsOr : ℕ → List ℕ → Type 0
EndsOr byte [] = Unit {0}
EndsOr byte (first ∷ _) = first ≡ byte

-- what may follow a segment: a slash, a comma or the end
abbrev pub ClosesSegment : List ℕ → Type 0
ClosesSegment behind = EndsOr slash behind ⊎ EndsOr comma behind

-- the text begins with a whole segment that stands for a node
pub record BeginsWithNode (text : List ℕ) : Type 0 where
  pub segment : Segment
  pub node : Node
  pub behind : List ℕ
  pub parts : text ≡ segment_text segment ++ behind
  pub means : IsNodeText segment node
  pub closed : ClosesSegment behind

-- the text of whole instances, each closed by its comma, and of whole segments, each closed by its slash
abbrev pub closed_text : List (List Segment) → List Segment → List ℕ
closed_text instances segments =
    flat_map (λ nodes. instance_text nodes ++ comma ∷ []) instances
    ++ flat_map (λ segment. segment_text segment ++ slash ∷ []) segments

-- The text goes on, after whole instances and segments that stand for nodes, with what is neither a whole segment nor,
-- where an instance may begin, an empty instance.
pub record IsStuckAt (text : List ℕ) (place : ℕ) : Type 0 where
  pub instances : List (List Segment)
  pub segments : List Segment
  pub rest : List ℕ
  pub path : List (List Node)
  pub nodes : List Node
  pub whole_instances : Each (Each IsNodeText) instances path
  pub whole_segments : Each IsNodeText segments nodes
  pub parts : text ≡ closed_text instances segments ++ rest
  pub at : place ≡ length (closed_text instances segments)
  pub no_node : BeginsWithNode rest → ⊥
  pub no_empty : segments ≡ [] → EndsOr comma rest → ⊥

-- the place of the fault is that of the segment, or lies within what is left from there on
abbrev pub IsPlaceOf : TextFault → ℕ → ℕ → Type 0
IsPlaceOf (BadSegment at) place len = at ≡ place
IsPlaceOf (BadNumber at) place len = (place ≤ at) × (at ≤ len)
IsPlaceOf (OutOfRange at) place len = (place ≤ at) × (at ≤ len)
IsPlaceOf (BadEnd at) place len = at ≡ place
IsPlaceOf OutOfMemory place len = ⊥

-- the text stands for no path from some segment on, and the fault is of that segment
abbrev pub IsTextFault : List ℕ → TextFault → Type 0
IsTextFault text fault = (place : ℕ) × IsStuckAt text place × IsPlaceOf fault place (length text)
