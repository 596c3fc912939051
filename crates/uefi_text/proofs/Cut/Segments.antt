-- A text is cut into segments in one way.
use Rattle.std.proofs.Common.{
  ◌≡◌,
  ◌≢◌,
  ℕ,
  ◌==◌,
  ◌||◌,
  Bool,
  true,
  false,
  List,
  [],
  ◌∷◌,
  ◌++◌,
  length,
  refl,
  sym,
  ap,
  subst,
  ◌∙◌,
  append_assoc,
  inl,
  inr,
  codes,
  arith,
}
use Rattle.std.specs.Cmp.Lexicographic.{pointwise}
use Rattle.std.specs.List.{AllByRecursion, join_with_byte}
use Rattle.uefi_text.specs.Segment.{Segment, named, bare, comma, slash, segment_text}
use Rattle.uefi_text.specs.Node.{IsBareName, IsBareUnit}
use Rattle.uefi_text.specs.Fault.{ClosesSegment}
use Rattle.uefi_text.proofs.Cut.Marks.{StopsAt, same_fronts, same_before_mark, same_joined}
use Rattle.uefi_text.specs.Within.{Lacks}

-- a byte of a segment's name
pub record IsNameByte (c : ℕ) : Type 0 where
  pub no_open : c ≢ 0x28
  pub no_close : c ≢ 0x29
  pub no_comma : c ≢ comma
  pub no_slash : c ≢ slash
  pub no_backslash : c ≢ 0x5C

-- a byte of an argument
pub record IsArgumentByte (c : ℕ) : Type 0 where
  pub no_open : c ≢ 0x28
  pub no_close : c ≢ 0x29

-- all between the parentheses is one argument, whatever commas it has
abbrev pub takes_all : List ℕ → Bool
takes_all name = pointwise ◌==◌ name (codes "Uri") || pointwise ◌==◌ name (codes "File")

-- one argument, or arguments without commas
abbrev pub AreParted : Bool → List (List ℕ) → Type 0
AreParted true arguments = length arguments ≡ 1
AreParted false arguments = AllByRecursion (Lacks comma) arguments

pub record IsPlainNamed (name : List ℕ) (arguments : List (List ℕ)) : Type 0 where
  pub name_bytes : AllByRecursion IsNameByte name
  pub some : arguments ≢ []
  pub argument_bytes : AllByRecursion (AllByRecursion IsArgumentByte) arguments
  pub parted : AreParted (takes_all name) arguments

-- a segment that can be told from what follows it
abbrev pub IsPlainSegment : Segment → Type 0
IsPlainSegment (named name arguments) = IsPlainNamed name arguments
IsPlainSegment (bare path_name) = IsBareName path_name

-- the property of each element follows from another
pub all_from : {X : Type 0} (P Q : X → Type 0) → ((x : X) → P x → Q x) → (xs : List X) → AllByRecursion P xs → AllByRecursion Q xs
all_from P Q f [] h = tt
all_from P Q f (x ∷ xs) h = (f x h.0, all_from P Q f xs h.1)

pub all_append : {X : Type 0} (P : X → Type 0) (xs ys : List X) → AllByRecursion P xs → AllByRecursion P ys → AllByRecursion P (xs ++ ys)
all_append P [] ys p q = q
all_append P (x ∷ xs) ys p q = (p.0, all_append P xs ys p.1 q)

-- joined lists have a property that each of them and the mark have
pub all_joined : (P : ℕ → Type 0) (mark : ℕ) (parts : List (List ℕ)) → P mark →
    AllByRecursion (AllByRecursion P) parts → AllByRecursion P (join_with_byte mark parts)
all_joined P mark [] p h = tt
all_joined P mark (x ∷ []) p h = h.0
all_joined P mark (x ∷ y ∷ xs) p h =
    all_append P x (mark ∷ join_with_byte mark (y ∷ xs)) h.0 (p, all_joined P mark (y ∷ xs) p h.1)

-- the text of a named segment before something
pub named_text : (name : List ℕ) (arguments : List (List ℕ)) (x : List ℕ) →
    segment_text (named name arguments) ++ x ≡ name ++ (0x28 ∷ (join_with_byte comma arguments ++ (0x29 ∷ x)))
named_text name arguments x = simp append_assoc

arguments_lack_close : (arguments : List (List ℕ)) → AllByRecursion (AllByRecursion IsArgumentByte) arguments → Lacks 0x29 (join_with_byte comma arguments)
arguments_lack_close arguments h =
    all_from IsArgumentByte (λ c. c ≢ 0x29) (λ c is. is.no_close) (join_with_byte comma arguments)
    (all_joined IsArgumentByte comma arguments (record { no_open = (λ e. omega arith); no_close = (λ e. omega arith) }) h)

pub one_of_length : (as' : List (List ℕ)) → length as' ≡ 1 → (a : List ℕ) × (as' ≡ a ∷ [])
one_of_length [] h = absurd (omega (arith, h))
one_of_length (a ∷ []) h = (a, refl)
one_of_length (a ∷ b ∷ as') h = absurd (omega (arith, h))

pub same_arguments : (whole : Bool) (as' bs : List (List ℕ)) → AreParted whole as' → AreParted whole bs → as' ≢ [] →
    bs ≢ [] → join_with_byte comma as' ≡ join_with_byte comma bs → as' ≡ bs
same_arguments true as' bs parted-a parted-b some-a some-b e =
    let a = one_of_length as' parted-a in
    let b = one_of_length bs parted-b in
    let inner : a.0 ≡ b.0 = sym (ap (join_with_byte comma) a.1) ∙ e ∙ ap (join_with_byte comma) b.1 in
    a.1 ∙ ap (λ (x : List ℕ). x ∷ []) inner ∙ sym b.1
same_arguments false as' bs parted-a parted-b some-a some-b e = same_joined comma as' bs parted-a parted-b some-a some-b e

pub same_named : (name name' : List ℕ) (arguments arguments' : List (List ℕ)) (x y : List ℕ) → IsPlainNamed name arguments → IsPlainNamed name' arguments'
    → segment_text (named name arguments) ++ x ≡ segment_text (named name' arguments') ++ y → (named name arguments ≡ named name' arguments') × (x ≡ y)
same_named name name' arguments arguments' x y plain plain' e =
    let spelled : name ++ (0x28 ∷ (join_with_byte comma arguments ++ (0x29 ∷ x))) ≡ name'
    ++ (0x28 ∷ (join_with_byte comma arguments' ++ (0x29 ∷ y))) = sym (named_text name arguments x) ∙ e
    ∙ named_text name' arguments' y in
    let lacks_open = λ (n : List ℕ). all_from IsNameByte (λ c. c ≢ 0x28) (λ c is. is.no_open) n in
    let outer = same_before_mark 0x28 name name' (join_with_byte comma arguments ++ (0x29 ∷ x))
    (join_with_byte comma arguments' ++ (0x29 ∷ y)) (lacks_open name plain.name_bytes)
    (lacks_open name' plain'.name_bytes) spelled in
    let inner = same_before_mark 0x29 (join_with_byte comma arguments) (join_with_byte comma arguments') x y
    (arguments_lack_close arguments plain.argument_bytes) (arguments_lack_close arguments' plain'.argument_bytes) outer.1 in
    let parted' : AreParted (takes_all name) arguments' = subst (λ (n : List ℕ). AreParted (takes_all n) arguments') (sym outer.0) plain'.parted in
    let same = same_arguments (takes_all name) arguments arguments' plain.parted parted' plain.some plain'.some inner.0 in
    (ap (λ (n : List ℕ). named n arguments) outer.0 ∙ ap (λ (as' : List (List ℕ)). named name' as') same, inner.1)

-- what closes a segment isn't a byte of a bare path name
pub closed_stops : (x : List ℕ) → ClosesSegment x → StopsAt IsBareUnit x
closed_stops [] closed = tt
closed_stops (c ∷ x) (inl is) = λ unit. unit.no_slash is
closed_stops (c ∷ x) (inr is) = λ unit. unit.no_comma is

same_bare : (a b x y : List ℕ) → IsBareName a → IsBareName b → ClosesSegment x → ClosesSegment y → a ++ x ≡ b ++ y → (a ≡ b) × (x ≡ y)
same_bare [] b x y plain-a plain-b closed-x closed-y e = absurd plain-a
same_bare (a ∷ as') [] x y plain-a plain-b closed-x closed-y e = absurd plain-b
same_bare (a ∷ as') (b ∷ bs) x y plain-a plain-b closed-x closed-y e =
    let tails : as' ++ x ≡ bs ++ y = cc in
    let head : a ≡ b = cc in
    let parts = same_fronts IsBareUnit as' bs x y plain-a.1 plain-b.1 (closed_stops x closed-x) (closed_stops y closed-y) tails in
    let same : as' ≡ bs = parts.0 in
    (cc, parts.1)

-- a named segment isn't a bare one
named_is_not_bare : (name : List ℕ) (arguments : List (List ℕ)) (path_name x y : List ℕ) →
    IsPlainNamed name arguments → IsBareName path_name → segment_text (named name arguments) ++ x ≡ path_name ++ y → ⊥
named_is_not_bare name arguments [] x y plain is-bare e = absurd is-bare
named_is_not_bare [] arguments (b ∷ bs) x y plain is-bare e =
    let spelled : 0x28 ∷ (join_with_byte comma arguments ++ (0x29 ∷ x)) ≡ b ∷ (bs ++ y) = sym (named_text [] arguments x) ∙ e in
    let head : 0x28 ≡ b = cc in
    absurd (omega (arith, is-bare.0))
named_is_not_bare (n ∷ name) arguments (b ∷ bs) x y plain is-bare e =
    let spelled : n ∷ (name ++ (0x28 ∷ (join_with_byte comma arguments ++ (0x29 ∷ x)))) ≡ b ∷ (bs ++ y) = sym (named_text (n ∷ name) arguments x) ∙ e in
    let head : n ≡ b = cc in
    absurd (plain.name_bytes.0.no_backslash (head ∙ is-bare.0))

-- a segment before what closes it is cut off in one way
pub same_segment : (s t : Segment) (x y : List ℕ) → IsPlainSegment s → IsPlainSegment t → ClosesSegment x →
    ClosesSegment y → segment_text s ++ x ≡ segment_text t ++ y → (s ≡ t) × (x ≡ y)
same_segment (named name arguments) (named name' arguments') x y plain-s plain-t closed-x closed-y e =
    same_named name name' arguments arguments' x y plain-s plain-t e
same_segment (named name arguments) (bare path_name) x y plain-s plain-t closed-x closed-y e =
    absurd (named_is_not_bare name arguments path_name x y plain-s plain-t e)
same_segment (bare path_name) (named name arguments) x y plain-s plain-t closed-x closed-y e =
    absurd (named_is_not_bare name arguments path_name y x plain-t plain-s (sym e))
same_segment (bare a) (bare b) x y plain-s plain-t closed-x closed-y e =
    let parts = same_bare a b x y plain-s plain-t closed-x closed-y e in
    (ap (λ (p : List ℕ). bare p) parts.0, parts.1)

-- how a plain segment begins
pub record BeginsPlain (text : List ℕ) : Type 0 where
  pub first : ℕ
  pub others : List ℕ
  pub is : text ≡ first ∷ others
  pub no_comma : first ≢ comma
  pub no_slash : first ≢ slash

pub begins_plain : (s : Segment) → IsPlainSegment s → BeginsPlain (segment_text s)
begins_plain (named [] arguments) plain =
    record { first = 0x28; others = join_with_byte comma arguments ++ codes ")"; is = refl; no_comma = (λ e. omega arith); no_slash = (λ e. omega arith) }
begins_plain (named (n ∷ name) arguments) plain =
    record {
      first = n;
      others = name ++ codes "(" ++ join_with_byte comma arguments ++ codes ")";
      is = refl;
      no_comma = plain.name_bytes.0.no_comma;
      no_slash = plain.name_bytes.0.no_slash;
    }
begins_plain (bare []) plain = absurd plain
begins_plain (bare (b ∷ bs)) plain =
    record { first = b; others = bs; is = refl; no_comma = (λ e. omega (arith, plain.0)); no_slash = (λ e. omega (arith, plain.0)) }
