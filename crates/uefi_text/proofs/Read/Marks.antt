-- A text is cut at its first byte of a kind.
use Rattle.std.proofs.Common.{
  ◌≡◌,
  ◌≢◌,
  ◌<◌,
  ◌≤◌,
  ◌+◌,
  ℕ,
  zero,
  suc,
  Bool,
  true,
  false,
  eqb,
  ltb,
  List,
  [],
  ◌∷◌,
  ◌++◌,
  length,
  length-append,
  get_or,
  take,
  drop,
  refl,
  ap,
  sym,
  ◌∙◌,
  arith,
}
use Rattle.std.specs.Prelude.{Some, None, position, if◌then◌else◌}
use Rattle.std.specs.List.{AllByRecursion, list_all, onto_first, position_or_len}
use Rattle.std.proofs.lemmas.Bool.{and_parts, eqb-true, eqb-false, ltb-false}
use Rattle.std.proofs.lemmas.Bool.Decides.{nat_tests}
use Rattle.std.proofs.lemmas.List.{take-append-drop, get_or-take, length-take-le}
use Rattle.std.proofs.lemmas.List.Quantifiers.{position-Some}
use Rattle.std.proofs.lemmas.List.Sums.{fails_before_first}
use Rattle.std.proofs.lemmas.List.Elements.{recursion_from_All, All-from_get_or}
use Rattle.std.proofs.Math.Seq.{drop-cons}
use Rattle.uefi_text.specs.Printed.{is_plain_from}
use Rattle.uefi_text.specs.Within.{Lacks, IsAroundMark}
use Rattle.uefi_text.specs.Reader.{parts_of, one_of, first_of, one_or_two_of, Tells}
use Rattle.uefi_text.specs.declared.fault.SegmentFault.{SegmentFault}
use Rattle.uefi_text.specs.declared.fault.SegmentFault.TheVariants.{BadSegment, BadNumber, OutOfRange, BadEnd, OutOfMemory}

-- what comes before the first byte of the kind, that byte, and what comes after it
pub record IsPlace (p : ℕ → Bool) (xs : List ℕ) (i : ℕ) : Type 0 where
  pub within : i < length xs
  pub parts : xs ≡ take i xs ++ (get_or xs i 0 ∷ drop (i + 1) xs)
  pub front : AllByRecursion (λ x. p x ≡ false) (take i xs)
  pub at : p (get_or xs i 0) ≡ true

pub place_found : (p : ℕ → Bool) (xs : List ℕ) (i : ℕ) → position p xs ≡ Some i → IsPlace p xs i
place_found p xs i e =
    let found = position-Some p xs i 0 e in
    let next : suc i ≡ i + 1 = omega arith in
    let under : i < length xs = found.0 in
    let up : i ≤ length xs = omega arith in
    let long = length-take-le i xs up in
    record {
      within = found.0;
      parts = sym (take-append-drop i xs) ∙ ap (λ rest. take i xs ++ rest) (drop-cons xs i 0 found.0 ∙ ap (λ k. get_or xs i 0 ∷ drop k xs) next);
      front = recursion_from_All (λ x. p x ≡ false) (take i xs)
          (All-from_get_or (λ x. p x ≡ false) (take i xs) 0 (λ k h. ap p (get_or-take i xs k 0 (omega arith)) ∙ found.2 k (omega arith)));
      at = found.1;
    }

no_place : (p : ℕ → Bool) (xs : List ℕ) (b : Bool) → (if b then Some (position_or_len p xs) else None) ≡ None → b ≡ false
no_place p xs true e = cc
no_place p xs false e = refl

pub place_none : (p : ℕ → Bool) (xs : List ℕ) → position p xs ≡ None → AllByRecursion (λ x. p x ≡ false) xs
place_none p xs e =
    let past = ltb-false (position_or_len p xs) (length xs) (no_place p xs (ltb (position_or_len p xs) (length xs)) e) in
    recursion_from_All (λ x. p x ≡ false) xs (All-from_get_or (λ x. p x ≡ false) xs 0 (λ k h. fails_before_first p xs k 0 (omega arith)))

-- none of the bytes is the mark
pub lacks_from : (mark : ℕ) (xs : List ℕ) → AllByRecursion (λ x. eqb x mark ≡ false) xs → Lacks mark xs
lacks_from mark [] h = tt
lacks_from mark (x ∷ xs) h = (eqb-false x mark h.0, lacks_from mark xs h.1)

pub around_found : (mark : ℕ) (xs : List ℕ) (i : ℕ) (front behind : List ℕ) → position (λ x. eqb x mark) xs ≡ Some i
    → front ≡ take i xs → behind ≡ drop (i + 1) xs → IsAroundMark mark xs front behind
around_found mark xs i front behind e f b =
    let place = place_found (λ x. eqb x mark) xs i e in
    let byte = eqb-true (get_or xs i 0) mark place.at in
    let parts : xs ≡ front ++ (mark ∷ behind) = rw (f, b) (place.parts ∙ ap (λ x. take i xs ++ (x ∷ drop (i + 1) xs)) byte) in
    record {
      parts = parts;
      lacks = rw f (lacks_from mark (take i xs) place.front);
      len = ap length parts ∙ (omega (arith, length-append front (mark ∷ behind)));
    }

-- a text is cut at each comma
pub arguments_one : (mark : ℕ) (xs : List ℕ) → Lacks mark xs → parts_of mark xs ≡ xs ∷ []
arguments_one mark [] h = refl
arguments_one mark (x ∷ xs) h =
    let other : eqb x mark ≡ false = grind (arith, nat_tests) in
    rw (other, arguments_one mark xs h.1) refl

pub arguments_more : (mark : ℕ) (front behind : List ℕ) → Lacks mark front → parts_of mark (front ++ (mark ∷ behind)) ≡ front ∷ parts_of mark behind
arguments_more mark [] behind h = let same : eqb mark mark ≡ true = grind (arith, nat_tests) in rw same refl
arguments_more mark (x ∷ xs) behind h =
    let other : eqb x mark ≡ false = grind (arith, nat_tests) in
    rw (other, arguments_more mark xs behind h.1) refl

-- there is always an argument
some_argument : (mark : ℕ) (P : List (List ℕ) → Type 0) →
    ((first : List ℕ) (others : List (List ℕ)) → P (first ∷ others)) → (xs : List ℕ) → P (parts_of mark xs)
some_argument mark P p [] = p [] []
some_argument mark P p (x ∷ xs) = elim (eqb x mark) as (λ b. P (if b then [] ∷ parts_of mark xs else onto_first x (parts_of mark xs))) [
  | true ↦ p [] (parts_of mark xs)
  | false ↦ some_argument mark (λ rest. P (onto_first x rest)) (λ first others. p (x ∷ first) others) xs
]

pub no_more : (mark : ℕ) (a xs : List ℕ) → one_of (a ∷ parts_of mark xs) ≡ None
no_more mark a xs = some_argument mark (λ others. one_of (a ∷ others) ≡ None) (λ first others. refl) xs

pub one_more : (mark : ℕ) (a xs : List ℕ) → first_of (a ∷ parts_of mark xs) ≡ Some (a, parts_of mark xs)
one_more mark a xs = some_argument mark (λ others. first_of (a ∷ others) ≡ Some (a, others)) (λ first others. refl) xs

-- if one thing isn't read because of another, the fault is that of the other
pub told_from : {A B C D : Type 0} (fault : SegmentFault) → (A → B) → (C → D) → Tells fault A C → Tells fault B D
told_from BadSegment f g h = f h
told_from (BadNumber at) f g h = f h
told_from (OutOfRange at) f g h = f h
told_from BadEnd f g h = f h
told_from OutOfMemory f g h = g h

pub two_more : (mark : ℕ) (a xs : List ℕ) → one_of (parts_of mark xs) ≡ None → one_or_two_of (a ∷ parts_of mark xs) ≡ None
two_more mark a xs = some_argument mark (λ parts. one_of parts ≡ None → one_or_two_of (a ∷ parts) ≡ None)
    (λ first others e. rw e refl) xs

each_at : (P : ℕ → Type 0) (xs : List ℕ) (i : ℕ) → AllByRecursion P xs → i < length xs → P (get_or xs i 0)
each_at P [] i all under = absurd (omega (arith, under))
each_at P (x ∷ xs) zero all under = all.0
each_at P (x ∷ xs) (suc i) all under = each_at P xs i all.1 (omega arith)

plain_not_zero : (xs : List ℕ) → list_all (is_plain_from 0x20) xs ≡ true → AllByRecursion (λ x. x ≢ 0) xs
plain_not_zero [] h = tt
plain_not_zero (x ∷ xs) h =
    let both = and_parts (is_plain_from 0x20 x) (list_all (is_plain_from 0x20) xs) h in
    let plain = both.0 in
    (grind (arith, nat_tests), plain_not_zero xs both.1)

-- no plain text has a zero unit
pub no_zero_unit : (xs : List ℕ) (i : ℕ) → list_all (is_plain_from 0x20) xs ≡ true → position (λ x. eqb x 0) xs ≡ Some i → ⊥
no_zero_unit xs i plain e =
    let place = place_found (λ x. eqb x 0) xs i e in
    each_at (λ x. x ≢ 0) xs i (plain_not_zero xs plain) place.within (eqb-true (get_or xs i 0) 0 place.at)
