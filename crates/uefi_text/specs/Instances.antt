-- For private functions of the reader: how it goes from segment to segment and from instance to instance.
use Rattle.std.specs.Prelude.{◌≡◌, ◌≢◌, ◌-◌, ℕ, List, [], ◌∷◌, ◌++◌, length, flat_map}
use Rattle.uefi_path.specs.declared.node.Node.{Node}
use Rattle.uefi_text.specs.declared.fault.TextFault.{TextFault}
use Rattle.uefi_text.specs.Bytes.{Each}
use Rattle.uefi_text.specs.Segment.{Segment, comma, slash, segment_text, instance_text, cut_text}
use Rattle.uefi_text.specs.Path.{IsNodeText}
use Rattle.uefi_text.specs.Fault.{EndsOr, ClosesSegment, BeginsWithNode, IsPlaceOf}

-- the text is that of a segment which stands for the node, and then the rest
pub record IsReadNode (text : List ℕ) (node : Node) (rest : List ℕ) : Type 0 where
  pub segment : Segment
  pub means : IsNodeText segment node
  pub parts : text ≡ segment_text segment ++ rest
  pub closed : ClosesSegment rest

-- no segment at the start of the text stands for a node, and the fault's place is there, or up to the end at len
pub record IsRefusedNode (text : List ℕ) (fault : TextFault) (len : ℕ) : Type 0 where
  pub no_node : BeginsWithNode text → ⊥
  pub place : IsPlaceOf fault (len - length text) len

-- the text of whole segments, each closed by its slash
abbrev pub closed_segments : List Segment → List ℕ
closed_segments segments = flat_map (λ segment. segment_text segment ++ slash ∷ []) segments

-- the text of whole instances, each closed by its comma
abbrev pub closed_instances : List (List Segment) → List ℕ
closed_instances instances = flat_map (λ nodes. instance_text nodes ++ comma ∷ []) instances

-- the text is that of an instance which stands for the nodes, and then the rest
pub record IsReadInstance (text : List ℕ) (nodes : List Node) (rest : List ℕ) : Type 0 where
  pub segments : List Segment
  pub means : Each IsNodeText segments nodes
  pub parts : text ≡ instance_text segments ++ rest
  pub closed : EndsOr comma rest

-- after whole segments the text goes on with no segment that stands for a node, and the fault is of that place
pub record IsRefusedInstance (text : List ℕ) (fault : TextFault) (len : ℕ) : Type 0 where
  pub segments : List Segment
  pub nodes : List Node
  pub rest : List ℕ
  pub means : Each IsNodeText segments nodes
  pub parts : text ≡ closed_segments segments ++ rest
  pub refused : IsRefusedNode rest fault len
  pub no_empty : segments ≡ [] → EndsOr comma rest → ⊥

-- the text is that of instances which stand for those of the path, of which there is one or more
pub record IsReadPath (text : List ℕ) (path : List (List Node)) : Type 0 where
  pub cut : List (List Segment)
  pub is : text ≡ cut_text cut
  pub nodes : Each (Each IsNodeText) cut path
  pub some : path ≢ []
