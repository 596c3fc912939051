-- Where a text is cut: at the first byte of a kind.
use Rattle.std.proofs.Common.{
  Bor,
  ◌≡◌,
  ◌≢◌,
  ◌<◌,
  ℕ,
  zero,
  suc,
  true,
  Option,
  Some,
  None,
  MatchOption,
  unwrap_or,
  List,
  [],
  ◌∷◌,
  ◌++◌,
  length,
  take,
  drop,
  eqb,
  refl,
  sym,
  subst,
  ◌∙◌,
  drop-cons,
  arith,
}
use Rattle.std.specs.List.{AllWithin, AllByRecursion, HoldsAt, list_any, join_with_byte}
use Rattle.std.proofs.lemmas.List.{drop_all, take-append-drop}
use Rattle.uefi_text.specs.declared.segment.Segment as code
use Rattle.uefi_text.specs.Segment.{Segment, named, bare, comma, segment_text}
use Rattle.uefi_text.specs.Node.{IsBareUnit, IsBareName}
use Rattle.uefi_text.specs.Cuts.{IsBareCut, StopsBare, open_mark, close_mark, IsNamedFront, IsBareFront, BeginsBare, IsNamed, IsBare, IsCutOf}
use Rattle.uefi_text.proofs.Cut.Marks.{StopsAt, same_fronts, same_before_mark}
use Rattle.uefi_text.specs.Within.{Lacks, IsAroundMark}
use Rattle.uefi_text.specs.Fault.{ClosesSegment}
use Rattle.uefi_text.proofs.Cut.Segments.{IsNameByte, IsArgumentByte, IsPlainNamed, IsPlainSegment, named_text, all_from, all_joined, closed_stops}
use Rattle.std.proofs.lemmas.Bool.{ne_eqb}

-- what holds of each element below an index holds of each of the prefix
pub first_of : (P : ℕ → Type 0) (xs : List ℕ) (i : ℕ) → AllWithin P xs 0 i → AllByRecursion P (take i xs)
first_of P xs zero h = tt
first_of P [] (suc i) h = tt
first_of P (x ∷ xs) (suc i) h =
    (h 0 x (omega arith) (omega arith), first_of P xs i (λ k d low high. h (suc k) d (omega arith) (omega arith)))

-- the first byte that is none of a bare path name, if there is one
abbrev pub IsBareLen : List ℕ → Option ℕ → Type 0
IsBareLen text len =
    MatchOption len (AllWithin IsBareUnit text 0 (length text))
    (λ i. (i < length text) × HoldsAt (λ unit. IsBareUnit unit → ⊥) text i × AllWithin IsBareUnit text 0 i)

stops_at : (text : List ℕ) (i : ℕ) → i < length text → HoldsAt (λ unit. IsBareUnit unit → ⊥) text i → StopsBare (drop i text)
stops_at text i lt stop = rw (drop-cons text i 0) (stop 0)

pub bare_cut : (text before after : List ℕ) (len : Option ℕ) → IsBareLen text len →
    before ≡ take (unwrap_or len (length text)) text → after ≡ drop (unwrap_or len (length text)) text →
    IsBareCut text before after
bare_cut text before after (Some i) h is-before is-after = record {
  parts = rw (is-before, is-after) (sym (take-append-drop i text));
  units = rw is-before (first_of IsBareUnit text i h.2);
  stops = rw is-after (stops_at text i h.0 h.1);
}
bare_cut text before after None h is-before is-after = record {
  parts = rw (is-before, is-after) (sym (take-append-drop (length text) text));
  units = rw is-before (first_of IsBareUnit text (length text) h);
  stops = rw (is-after, drop_all (length text) text (omega arith)) tt;
}

-- a list with the mark has it
pub has_mark : (mark : ℕ) (before behind : List ℕ) → Lacks mark (before ++ mark ∷ behind) → ⊥
has_mark mark [] behind h = h.0 refl
has_mark mark (b ∷ before) behind h = has_mark mark before behind h.1

-- a list in which some byte is the mark
pub has_some : (mark : ℕ) (text : List ℕ) → Lacks mark text → list_any (λ byte. eqb byte mark) text ≡ true → ⊥
has_some mark [] h is = cc
has_some mark (b ∷ text) h is =
    has_some mark text h.1 (rw (ne_eqb b mark h.0) at is)

-- the name, the inside of the parentheses and the rest, as they are cut off one after the other
pub record AreParts (name inside behind before inner rest : List ℕ) : Type 0 where
  pub same_name : before ≡ name
  pub same_inside : inner ≡ inside
  pub same_rest : rest ≡ behind

pub same_parts : (text name inside behind before middle inner rest : List ℕ) → IsNamedFront text name inside behind →
    IsAroundMark open_mark text before middle → IsAroundMark close_mark middle inner rest →
    AreParts name inside behind before inner rest
same_parts text name inside behind before middle inner rest front cut cut-inside =
    let outer = same_before_mark open_mark before name middle (inside ++ close_mark ∷ behind) cut.lacks front.name_bytes (sym cut.parts ∙ front.parts) in
    let inner-parts = same_before_mark close_mark inner inside rest behind cut-inside.lacks front.no_close (sym cut-inside.parts ∙ outer.1) in
    record { same_name = outer.0; same_inside = inner-parts.0; same_rest = inner-parts.1 }

pub has_open : (text name inside behind : List ℕ) → IsNamedFront text name inside behind → Lacks open_mark text → ⊥
has_open text name inside behind front lacks =
    has_mark open_mark name (inside ++ close_mark ∷ behind) (subst (Lacks open_mark) front.parts lacks)

pub has_close : (text name inside behind before middle : List ℕ) → IsNamedFront text name inside behind →
    IsAroundMark open_mark text before middle → Lacks close_mark middle → ⊥
has_close text name inside behind before middle front cut lacks =
    let outer = same_before_mark open_mark before name middle (inside ++ close_mark ∷ behind) cut.lacks front.name_bytes (sym cut.parts ∙ front.parts) in
    has_mark close_mark inside behind (subst (Lacks close_mark) outer.1 lacks)

-- a backslash is a byte of a bare path name
pub first_is_bare : (first : ℕ) → first ≡ 0x5C → IsBareUnit first
first_is_bare first is = record {
  plain = record { low = omega arith; high = omega arith; no_open = (λ e. omega arith); no_close = (λ e. omega arith) };
  no_slash = (λ e. omega arith);
  no_comma = (λ e. omega arith);
}

stops_bare : (rest : List ℕ) → StopsBare rest → StopsAt IsBareUnit rest
stops_bare [] stops = tt
stops_bare (c ∷ rest) stops = stops

-- the bare path name and the rest, as they are cut off
pub same_bare_parts : (text path_name behind before rest : List ℕ) → IsBareFront text path_name behind →
    IsBareCut text before rest → (before ≡ path_name) × (rest ≡ behind)
same_bare_parts text [] behind before rest front cut = absurd front.name
same_bare_parts text (first ∷ others) behind before rest front cut =
    same_fronts IsBareUnit before (first ∷ others) rest behind cut.units
    (first_is_bare first front.name.0, front.name.1) (stops_bare rest cut.stops)
    (closed_stops behind front.closed) (sym cut.parts ∙ front.parts)

joined_lacks : (mark : ℕ) (arguments : List (List ℕ)) → ((c : ℕ) → IsArgumentByte c → c ≢ mark) →
    AllByRecursion (AllByRecursion IsArgumentByte) arguments → Lacks mark (join_with_byte comma arguments)
joined_lacks mark arguments differs h =
    all_from IsArgumentByte (λ c. c ≢ mark) differs (join_with_byte comma arguments)
    (all_joined IsArgumentByte comma arguments (record { no_open = (λ e. omega arith); no_close = (λ e. omega arith) }) h)

-- a plain segment at the start of a text that doesn't begin with a backslash is a named one, and its parts are plain
pub named_front : (name : List ℕ) (arguments : List (List ℕ)) (text behind : List ℕ) →
    text ≡ segment_text (named name arguments) ++ behind → IsPlainNamed name arguments → ClosesSegment behind →
    IsNamedFront text name (join_with_byte comma arguments) behind
named_front name arguments text behind e plain closed = record {
  parts = e ∙ named_text name arguments behind;
  name_bytes = all_from IsNameByte (λ c. c ≢ open_mark) (λ c is. is.no_open) name plain.name_bytes;
  no_open = joined_lacks open_mark arguments (λ c is. is.no_open) plain.argument_bytes;
  no_close = joined_lacks close_mark arguments (λ c is. is.no_close) plain.argument_bytes;
  closed = closed;
}

-- a named segment doesn't begin with a backslash
pub named_not_bare : (name : List ℕ) (arguments : List (List ℕ)) (text behind : List ℕ) →
    text ≡ segment_text (named name arguments) ++ behind → IsPlainNamed name arguments → BeginsBare text → ⊥
named_not_bare name arguments [] behind e plain begins = begins
named_not_bare [] arguments (t ∷ text) behind e plain begins =
    let whole : t ∷ text ≡ open_mark ∷ (join_with_byte comma arguments ++ close_mark ∷ behind) = e ∙ named_text [] arguments behind in
    let head : t ≡ open_mark = cc in
    omega (arith, begins, head)
named_not_bare (n ∷ name) arguments (t ∷ text) behind e plain begins =
    let whole : t ∷ text ≡ n ∷ (name ++ (open_mark ∷ (join_with_byte comma arguments ++ close_mark ∷ behind))) = e ∙ named_text (n ∷ name) arguments behind in
    let head : n ≡ t = cc in
    plain.name_bytes.0.no_backslash (head ∙ begins)

-- a bare segment does
pub bare_begins : (path_name text behind : List ℕ) → text ≡ path_name ++ behind → IsBareName path_name → BeginsBare text
bare_begins [] text behind e name = absurd name
bare_begins (first ∷ others) [] behind e name = absurd (cc)
bare_begins (first ∷ others) (t ∷ text) behind e name = let head : t ≡ first = cc in head ∙ name.0

-- what is cut off, and what follows it
abbrev pub Answer : Type 0
Answer = Option (code.Segment × Bor (List ℕ))

-- the answer is this segment and what follows it
abbrev pub IsAnswer : Segment → List ℕ → Answer → Type 0
IsAnswer segment behind answer = MatchOption answer ⊥ (λ cut. IsCutOf cut.0 segment × (cut.1.now ≡ behind))

abbrev pub OnBare : List ℕ → Answer → Type 0
OnBare text answer =
    (path_name behind : List ℕ) → IsBareFront text path_name behind
    → MatchOption answer ⊥ (λ cut. IsBare path_name cut.0 × (cut.1.now ≡ behind))

abbrev pub OnNamed : List ℕ → Answer → Type 0
OnNamed text answer =
    (name inside behind : List ℕ) → IsNamedFront text name inside behind
    → MatchOption answer ⊥ (λ cut. IsNamed name inside cut.0 × (cut.1.now ≡ behind))

pub bare_answer : (text : List ℕ) (segment : Segment) (behind : List ℕ) (answer : Answer) →
    text ≡ segment_text segment ++ behind → IsPlainSegment segment → ClosesSegment behind → BeginsBare text →
    OnBare text answer → IsAnswer segment behind answer
bare_answer text (named name arguments) behind answer e plain closed begins only =
    absurd (named_not_bare name arguments text behind e plain begins)
bare_answer text (bare path_name) behind answer e plain closed begins only =
    only path_name behind (record { parts = e; name = plain; closed = closed })

pub named_answer : (text : List ℕ) (segment : Segment) (behind : List ℕ) (answer : Answer) →
    text ≡ segment_text segment ++ behind → IsPlainSegment segment → ClosesSegment behind → (BeginsBare text → ⊥) →
    OnNamed text answer → IsAnswer segment behind answer
named_answer text (named name arguments) behind answer e plain closed other only =
    only name (join_with_byte comma arguments) behind (named_front name arguments text behind e plain closed)
named_answer text (bare path_name) behind answer e plain closed other only =
    absurd (other (bare_begins path_name text behind e plain))
