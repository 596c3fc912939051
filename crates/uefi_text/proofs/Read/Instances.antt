-- How a text is read, segment by segment and instance by instance.
use Rattle.std.proofs.Common.{
  ◌≡◌,
  ◌<◌,
  ◌≤◌,
  ◌-◌,
  ℕ,
  List,
  [],
  ◌∷◌,
  ◌++◌,
  length,
  flat_map,
  map,
  refl,
  sym,
  ap,
  subst,
  ◌∙◌,
  append_assoc,
  append-nil,
  length-append,
  take,
  drop,
  inl,
  inr,
  arith,
}
use Rattle.std.specs.List.{join_with_byte}
use Rattle.std.proofs.lemmas.List.{take_all, map-append}
use Rattle.uefi_path.specs.declared.node.Node.{Node}
use Rattle.uefi_text.specs.declared.fault.TextFault.{TextFault}
use Rattle.uefi_text.specs.Bytes.{Each}
use Rattle.uefi_text.specs.Segment.{Segment, comma, slash, segment_text, instance_text}
use Rattle.uefi_text.specs.Path.{IsNodeText}
use Rattle.uefi_text.specs.Fault.{EndsOr, ClosesSegment, closed_text, IsPlaceOf, IsTextFault}
use Rattle.uefi_text.specs.Instances.{IsReadNode, IsReadInstance, IsRefusedInstance, IsReadPath, closed_segments, closed_instances}

-- the text begins with whole segments which stand for the nodes, each closed by its slash, and another must follow
pub record IsReading (text : List ℕ) (nodes : List Node) (rest : List ℕ) : Type 0 where
  pub segments : List Segment
  pub means : Each IsNodeText segments nodes
  pub parts : text ≡ closed_segments segments ++ rest
  pub no_empty : segments ≡ [] → EndsOr comma rest → ⊥

pub each_push : {X Y : Type 0} (R : X → Y → Type 0) (xs : List X) (ys : List Y) (x : X) (y : Y) → Each R xs ys → R x y → Each R (xs ++ x ∷ []) (ys ++ y ∷ [])
each_push R [] [] x y h r = (r, tt)
each_push R [] (b ∷ ys) x y h r = absurd h
each_push R (a ∷ xs) [] x y h r = absurd h
each_push R (a ∷ xs) (b ∷ ys) x y h r = (h.0, each_push R xs ys x y h.1 r)

pushed_some : {X : Type 0} (xs : List X) (x : X) → xs ++ x ∷ [] ≡ [] → ⊥
pushed_some [] x e = cc
pushed_some (a ∷ xs) x e = cc

-- what has its mark after it, and one more
pub closed_more : {X : Type 0} (f : X → List ℕ) (mark : ℕ) (xs : List X) (x : X) (rest : List ℕ) →
    flat_map (λ x. f x ++ mark ∷ []) xs ++ (f x ++ mark ∷ rest) ≡ flat_map (λ x. f x ++ mark ∷ []) (xs ++ x ∷ []) ++ rest
closed_more f mark [] x rest = simp (append_assoc, append-nil)
closed_more f mark (y ∷ xs) x rest =
    append_assoc (f y ++ mark ∷ []) (flat_map (λ x. f x ++ mark ∷ []) xs) (f x ++ mark ∷ rest)
    ∙ ap (λ (t : List ℕ). (f y ++ mark ∷ []) ++ t) (closed_more f mark xs x rest)
    ∙ sym (append_assoc (f y ++ mark ∷ []) (flat_map (λ x. f x ++ mark ∷ []) (xs ++ x ∷ [])) rest)

-- what has its mark after it, and a last one, are joined by the mark
pub joined_last : {X : Type 0} (f : X → List ℕ) (mark : ℕ) (xs : List X) (x : X) →
    flat_map (λ x. f x ++ mark ∷ []) xs ++ f x ≡ join_with_byte mark (map f (xs ++ x ∷ []))
joined_last f mark [] x = refl
joined_last f mark (y ∷ []) x = simp (append_assoc, append-nil)
joined_last f mark (y ∷ z ∷ xs) x =
    append_assoc (f y ++ mark ∷ []) (flat_map (λ x. f x ++ mark ∷ []) (z ∷ xs)) (f x)
    ∙ ap (λ (t : List ℕ). (f y ++ mark ∷ []) ++ t) (joined_last f mark (z ∷ xs) x)
    ∙ append_assoc (f y) (mark ∷ []) (join_with_byte mark (map f (z ∷ xs ++ x ∷ [])))

-- what comes after the slash
abbrev pub behind_mark : List ℕ → List ℕ
behind_mark behind = take (length behind - 1) (drop 1 behind)

slash_first : (behind : List ℕ) → ClosesSegment behind → (EndsOr comma behind → ⊥) → behind ≡ slash ∷ behind_mark behind
slash_first [] closed goes = absurd (goes tt)
slash_first (c ∷ rest) (inl is) goes =
    let same : take (length (c ∷ rest) - 1) rest ≡ rest = take_all (length (c ∷ rest) - 1) rest (omega arith) in
    cc
slash_first (c ∷ rest) (inr is) goes = absurd (goes is)

-- the text up to a segment that was read, and what follows it
read_parts : (text rest behind : List ℕ) (segments : List Segment) (segment : Segment) →
    text ≡ closed_segments segments ++ rest → rest ≡ segment_text segment ++ behind →
    text ≡ closed_segments segments ++ (segment_text segment ++ behind)
read_parts text rest behind segments segment e f = e ∙ ap (λ (t : List ℕ). closed_segments segments ++ t) f

pub reading_more : (text : List ℕ) (nodes all : List Node) (rest : List ℕ) (node : Node) (behind : List ℕ) →
    IsReading text nodes rest → IsReadNode rest node behind → all ≡ nodes ++ node ∷ [] → (EndsOr comma behind → ⊥) →
    IsReading text all (behind_mark behind)
reading_more text nodes all rest node behind r read e goes =
    let others = behind_mark behind in
    let next : behind ≡ slash ∷ others = slash_first behind read.closed goes in
    record {
      segments = r.segments ++ read.segment ∷ [];
      means = rw e (each_push IsNodeText r.segments nodes read.segment node r.means read.means);
      parts = read_parts text rest (slash ∷ others) r.segments read.segment r.parts
          (subst (λ (b : List ℕ). rest ≡ segment_text read.segment ++ b) next read.parts)
          ∙ closed_more segment_text slash r.segments read.segment others;
      no_empty = (λ none. absurd (pushed_some r.segments read.segment none));
    }

pub reading_done : (text : List ℕ) (nodes all : List Node) (rest : List ℕ) (node : Node) (behind : List ℕ) →
    IsReading text nodes rest → IsReadNode rest node behind → all ≡ nodes ++ node ∷ [] → EndsOr comma behind →
    IsReadInstance text all behind
reading_done text nodes all rest node behind r read e closed = record {
  segments = r.segments ++ read.segment ∷ [];
  means = rw e (each_push IsNodeText r.segments nodes read.segment node r.means read.means);
  parts = read_parts text rest behind r.segments read.segment r.parts read.parts
      ∙ sym (append_assoc (closed_segments r.segments) (segment_text read.segment) behind)
      ∙ ap (λ (t : List ℕ). t ++ behind) (joined_last segment_text slash r.segments read.segment);
  closed = closed;
}

-- the text begins with whole instances which stand for those of the path, each closed by its comma
pub record IsReadingPath (text : List ℕ) (path : List (List Node)) (rest : List ℕ) : Type 0 where
  pub instances : List (List Segment)
  pub means : Each (Each IsNodeText) instances path
  pub parts : text ≡ closed_instances instances ++ rest

path_parts : (text rest behind : List ℕ) (instances : List (List Segment)) (segments : List Segment) →
    text ≡ closed_instances instances ++ rest → rest ≡ instance_text segments ++ behind →
    text ≡ closed_instances instances ++ (instance_text segments ++ behind)
path_parts text rest behind instances segments e f = e ∙ ap (λ (t : List ℕ). closed_instances instances ++ t) f

pub path_more : (text : List ℕ) (path all : List (List Node)) (rest : List ℕ) (nodes : List Node)
    (behind others : List ℕ) → IsReadingPath text path rest → IsReadInstance rest nodes behind →
    all ≡ path ++ nodes ∷ [] → behind ≡ comma ∷ others → IsReadingPath text all others
path_more text path all rest nodes behind others r read e next = record {
  instances = r.instances ++ read.segments ∷ [];
  means = rw e (each_push (Each IsNodeText) r.instances path read.segments nodes r.means read.means);
  parts = path_parts text rest (comma ∷ others) r.instances read.segments r.parts
      (subst (λ (b : List ℕ). rest ≡ instance_text read.segments ++ b) next read.parts)
      ∙ closed_more instance_text comma r.instances read.segments others;
}

pub path_done : (text : List ℕ) (path all : List (List Node)) (rest : List ℕ) (nodes : List Node) (behind : List ℕ) →
    IsReadingPath text path rest → IsReadInstance rest nodes behind → all ≡ path ++ nodes ∷ [] → behind ≡ [] → IsReadPath text all
path_done text path all rest nodes behind r read e end = record {
  cut = r.instances ++ read.segments ∷ [];
  is = path_parts text rest [] r.instances read.segments r.parts (subst (λ (b : List ℕ). rest ≡ instance_text read.segments ++ b) end read.parts)
      ∙ ap (λ (t : List ℕ). closed_instances r.instances ++ t) (append-nil (instance_text read.segments))
      ∙ joined_last instance_text comma r.instances read.segments;
  nodes = rw e (each_push (Each IsNodeText) r.instances path read.segments nodes r.means read.means);
  some = (λ none. pushed_some path nodes (sym e ∙ none));
}

pub path_refused : (text : List ℕ) (path : List (List Node)) (rest : List ℕ) (fault : TextFault) →
    IsReadingPath text path rest → IsRefusedInstance rest fault (length text) → IsTextFault text fault
path_refused text path rest fault r refusal =
    let closed = closed_text r.instances refusal.segments in
    let whole : text ≡ closed ++ refusal.rest =
    r.parts ∙ ap (λ (t : List ℕ). closed_instances r.instances ++ t) refusal.parts
    ∙ sym (append_assoc (closed_instances r.instances) (closed_segments refusal.segments) refusal.rest) in
    let place : length text - length refusal.rest ≡ length closed = omega (arith, length-append closed refusal.rest, ap length whole) in (
      length closed,
      record {
        instances = r.instances;
        segments = refusal.segments;
        rest = refusal.rest;
        path = path;
        nodes = refusal.nodes;
        whole_instances = r.means;
        whole_segments = refusal.means;
        parts = whole;
        at = refl;
        no_node = refusal.refused.no_node;
        no_empty = refusal.no_empty;
      },
      subst (λ (n : ℕ). IsPlaceOf fault n (length text)) place refusal.refused.place,
    )

pub map_more : {X Y : Type 0} (f : X → Y) (xs all : List X) (x : X) → all ≡ xs ++ x ∷ [] → map f all ≡ map f xs ++ f x ∷ []
map_more f xs all x e = ap (map f) e ∙ map-append f xs (x ∷ [])

pub none_left : (behind : List ℕ) → length behind < 1 → behind ≡ []
none_left [] h = refl
none_left (c ∷ behind) h = absurd (omega arith)

pub comma_first : (behind : List ℕ) → EndsOr comma behind → 1 ≤ length behind → behind ≡ comma ∷ behind_mark behind
comma_first [] closed some = absurd (omega arith)
comma_first (c ∷ rest) closed some =
    let same : take (length (c ∷ rest) - 1) rest ≡ rest = take_all (length (c ∷ rest) - 1) rest (omega arith) in
    cc
