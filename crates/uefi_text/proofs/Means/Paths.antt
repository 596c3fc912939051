-- A text stands for at most one path, and for none if it is stuck.
use Rattle.std.proofs.Common.{◌≡◌, ◌≢◌, ◌⊎◌, ℕ, List, length, [], ◌∷◌, ◌++◌, refl, sym, ap, subst, ◌∙◌, inl, inr}
use Rattle.std.specs.List.{AllByRecursion}
use Rattle.uefi_path.specs.declared.node.Node.{Node}
use Rattle.uefi_text.specs.declared.fault.TextFault.{TextFault}
use Rattle.uefi_text.specs.Bytes.{Each}
use Rattle.uefi_text.specs.Segment.{Segment, comma}
use Rattle.uefi_text.specs.Path.{IsNodeText, IsPathText}
use Rattle.uefi_text.specs.Fault.{EndsOr, BeginsWithNode, closed_text, IsStuckAt, IsTextFault}
use Rattle.uefi_text.proofs.Cut.Segments.{IsPlainSegment}
use Rattle.uefi_text.proofs.Cut.Paths.{IsPlainInstance, same_cut, BeginsWith, text_goes_on, IsStuck, same_closed}
use Rattle.uefi_text.proofs.Means.Texts.{each_one, all_from_each}
use Rattle.uefi_text.proofs.Means.One.{BytesSpellOneNode, node_text_one}
use Rattle.uefi_text.proofs.Means.Plain.{plain_of_text}

-- segments that stand for nodes
pub instance_is_plain : (segments : List Segment) (nodes : List Node) → Each IsNodeText segments nodes → IsPlainInstance segments
instance_is_plain segments nodes h = all_from_each IsNodeText IsPlainSegment plain_of_text segments nodes h

pub cut_is_plain : (cut : List (List Segment)) (path : List (List Node)) → Each (Each IsNodeText) cut path → AllByRecursion IsPlainInstance cut
cut_is_plain cut path h = all_from_each (Each IsNodeText) IsPlainInstance instance_is_plain cut path h

pub each_some : {X Y : Type 0} (R : X → Y → Type 0) (xs : List X) (ys : List Y) → Each R xs ys → ys ≢ [] → xs ≢ []
each_some R [] [] h some e = some refl
each_some R [] (y ∷ ys) h some e = h
each_some R (x ∷ xs) ys h some e = cc

pub nodes_one : BytesSpellOneNode → (segments : List Segment) (m n : List Node) → Each IsNodeText segments m → Each IsNodeText segments n → m ≡ n
nodes_one law segments m n p q = each_one IsNodeText (node_text_one law) segments m n p q

pub instances_one : BytesSpellOneNode → (cut : List (List Segment)) (p q : List (List Node)) →
    Each (Each IsNodeText) cut p → Each (Each IsNodeText) cut q → p ≡ q
instances_one law cut p q h g = each_one (Each IsNodeText) (nodes_one law) cut p q h g

-- the cut of a text that stands for a path
pub cut_one : (text : List ℕ) (p q : List (List Node)) (is : IsPathText text p) (also : IsPathText text q) → is.cut ≡ also.cut
cut_one text p q is also =
    same_cut is.cut also.cut (cut_is_plain is.cut p is.nodes) (cut_is_plain also.cut q also.nodes)
    (each_some (Each IsNodeText) is.cut p is.nodes is.valid.some) (each_some (Each IsNodeText) also.cut q also.nodes also.valid.some)
    (sym is.is ∙ also.is)

pub path_text_one : BytesSpellOneNode → (text : List ℕ) (p q : List (List Node)) → IsPathText text p → IsPathText text q → p ≡ q
path_text_one law text p q is also =
    instances_one law also.cut p q (subst (λ (cut : List (List Segment)). Each (Each IsNodeText) cut p) (cut_one text p q is also) is.nodes) also.nodes

-- the segment stands for some node
abbrev pub IsSomeNodes : Segment → Type 0
IsSomeNodes segment = (node : Node) × IsNodeText segment node

some_nodes_is_plain : (s : Segment) → IsSomeNodes s → IsPlainSegment s
some_nodes_is_plain s is = plain_of_text s is.0 is.1

-- after whole instances and segments a text of a path goes on with a segment, or an empty instance closes
pub path_goes_on : (text : List ℕ) (path : List (List Node)) (instances : List (List Segment))
    (segments : List Segment) (rest : List ℕ) → IsPathText text path → AllByRecursion IsPlainInstance instances →
    IsPlainInstance segments → text ≡ closed_text instances segments ++ rest
    → BeginsWith IsSomeNodes rest ⊎ ((segments ≡ []) × EndsOr comma rest)
path_goes_on text path instances segments rest is plain-i plain-s parts =
    text_goes_on IsSomeNodes some_nodes_is_plain instances segments rest is.cut plain-i plain-s
    (all_from_each (Each IsNodeText) (AllByRecursion IsSomeNodes)
    (λ ss ns h. all_from_each IsNodeText IsSomeNodes (λ s n is-node. (n, is-node)) ss ns h) is.cut path is.nodes)
    (each_some (Each IsNodeText) is.cut path is.nodes is.valid.some) (sym parts ∙ is.is)

pub begins_with_node : (rest : List ℕ) → BeginsWith IsSomeNodes rest → BeginsWithNode rest
begins_with_node rest b =
    record { segment = b.segment; node = b.holds.0; behind = b.behind; parts = b.parts; means = b.holds.1; closed = b.closed }

pub stuck_is_no_path : (text : List ℕ) (place : ℕ) (path : List (List Node)) → IsStuckAt text place → IsPathText text path → ⊥
stuck_is_no_path text place path stuck is =
    elim (path_goes_on text path stuck.instances stuck.segments stuck.rest is
    (cut_is_plain stuck.instances stuck.path stuck.whole_instances)
    (instance_is_plain stuck.segments stuck.nodes stuck.whole_segments) stuck.parts) [
      | inl begins ↦ stuck.no_node (begins_with_node stuck.rest begins)
      | inr empty ↦ stuck.no_empty empty.0 empty.1
    ]

pub fault_is_no_path : (text : List ℕ) (fault : TextFault) (path : List (List Node)) → IsTextFault text fault → IsPathText text path → ⊥
fault_is_no_path text fault path is-fault is = stuck_is_no_path text is-fault.0 path is-fault.1 is

all_some_nodes : (segments : List Segment) (nodes : List Node) → Each IsNodeText segments nodes → AllByRecursion IsSomeNodes segments
all_some_nodes segments nodes h = all_from_each IsNodeText IsSomeNodes (λ s n is. (n, is)) segments nodes h

is_stuck : (text : List ℕ) (place : ℕ) (stuck : IsStuckAt text place) → IsStuck IsSomeNodes stuck.segments stuck.rest
is_stuck text place stuck =
    record { no_segment = (λ begins. stuck.no_node (begins_with_node stuck.rest begins)); no_empty = stuck.no_empty }

-- a text is stuck at one place at most
pub stuck_place_one : (text : List ℕ) (a b : ℕ) → IsStuckAt text a → IsStuckAt text b → a ≡ b
stuck_place_one text a b p q =
    let same = same_closed IsSomeNodes some_nodes_is_plain p.instances q.instances p.segments q.segments p.rest q.rest
    (all_from_each (Each IsNodeText) (AllByRecursion IsSomeNodes) all_some_nodes p.instances p.path p.whole_instances)
    (all_from_each (Each IsNodeText) (AllByRecursion IsSomeNodes) all_some_nodes q.instances q.path q.whole_instances)
    (all_some_nodes p.segments p.nodes p.whole_segments) (all_some_nodes q.segments q.nodes q.whole_segments)
    (is_stuck text a p) (is_stuck text b q) (sym p.parts ∙ q.parts) in
    p.at ∙ ap (λ (instances : List (List Segment)). length (closed_text instances p.segments)) same.0
    ∙ ap (λ (segments : List Segment). length (closed_text q.instances segments)) same.1 ∙ sym q.at
