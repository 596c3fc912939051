-- What is before the list of a load option: attributes, the length of the list, and a description.
use Rattle.std.proofs.Common.{◌≡◌, ◌⊎◌, ℕ, ◌+◌, ◌<◌, ◌^◌, List, [], ◌∷◌, ◌++◌, length, take, drop, refl, sym, ap, ◌∙◌, inl, inr, arith, append_assoc}
use Rattle.std.specs.Int.{w16, w32, from_le_bytes, to_le_bytes}
use Rattle.std.specs.List.{AllByRecursion}
use Rattle.std.proofs.lemmas.Bool.{cases_eq}
use Rattle.std.proofs.lemmas.Nat.{le_bytes_2, le_bytes_4, from_le_bytes-to_le_bytes_2, from_le_bytes-to_le_bytes_4}
use Rattle.uefi_path.specs.Units.{units_bytes}
use Rattle.uefi_path.specs.Row.{IsByte}
use Rattle.uefi_path.specs.Parts.{IsUnit}
use Rattle.uefi_option.specs.LoadOption.{header_bytes, description_bytes}
use Rattle.uefi_option.specs.Reader.{HasNoZero}
use Rattle.uefi_option.proofs.Bytes.{bytes_from_recursion}

-- ---- one unit and those that follow it

same_unit : (n m : ℕ) (x y : List ℕ) → n < 2 ^ 16 → m < 2 ^ 16 → to_le_bytes w16 n ++ x ≡ to_le_bytes w16 m ++ y → (n ≡ m) × (x ≡ y)
same_unit n m x y fits-n fits-m e =
    let read : from_le_bytes w16 (to_le_bytes w16 n) ≡ from_le_bytes w16 (to_le_bytes w16 m) = ap (λ (t : List ℕ). from_le_bytes w16 (take 2 t)) e in
    (sym (from_le_bytes-to_le_bytes_2 n fits-n) ∙ read ∙ from_le_bytes-to_le_bytes_2 m fits-m, ap (drop 2) e)

-- no unit begins here, but perhaps a zero unit
abbrev StopsUnits : List ℕ → Type 0
StopsUnits rest = (n : ℕ) (behind : List ℕ) → IsUnit n → rest ≡ to_le_bytes w16 n ++ behind → ⊥

zero_stops : (rest : List ℕ) → StopsUnits (to_le_bytes w16 0 ++ rest)
zero_stops rest n behind is e = is.0 (sym (same_unit 0 n rest behind (omega arith) is.1 e).0)

half_stops : (left : List ℕ) → length left < 2 → StopsUnits left
half_stops left half n behind is e = let size : length left ≡ 2 + length behind = ap length e ∙ omega arith in omega arith

same_units : (us vs : List ℕ) (x y : List ℕ) → AllByRecursion IsUnit us → AllByRecursion IsUnit vs → StopsUnits x →
    StopsUnits y → units_bytes us ++ x ≡ units_bytes vs ++ y → (us ≡ vs) × (x ≡ y)
same_units [] [] x y are-u are-v stops-x stops-y e = (refl, e)
same_units [] (v ∷ vs) x y are-u are-v stops-x stops-y e = absurd
    (stops-x v (units_bytes vs ++ y) are-v.0 (e ∙ append_assoc (to_le_bytes w16 v) (units_bytes vs) y))
same_units (u ∷ us) [] x y are-u are-v stops-x stops-y e = absurd
    (stops-y u (units_bytes us ++ x) are-u.0 (sym e ∙ append_assoc (to_le_bytes w16 u) (units_bytes us) x))
same_units (u ∷ us) (v ∷ vs) x y are-u are-v stops-x stops-y e =
    let regrouped : to_le_bytes w16 u ++ (units_bytes us ++ x) ≡ to_le_bytes w16 v ++ (units_bytes vs ++ y) =
    sym (append_assoc (to_le_bytes w16 u) (units_bytes us) x) ∙ e ∙ append_assoc (to_le_bytes w16 v) (units_bytes vs) y in
    let here = same_unit u v (units_bytes us ++ x) (units_bytes vs ++ y) are-u.0.1 are-v.0.1 regrouped in
    let others = same_units us vs x y are-u.1 are-v.1 stops-x stops-y here.1 in
    (ap (λ (n : ℕ). n ∷ us) here.0 ∙ ap (λ (t : List ℕ). v ∷ t) others.0, others.1)

-- ---- the header

pub record SameHeader (a b l m : ℕ) (x y : List ℕ) : Type 0 where
  pub attributes : a ≡ b
  pub len : l ≡ m
  pub rest : x ≡ y

pub same_header : (a b l m : ℕ) (x y : List ℕ) → a < 2 ^ 32 → b < 2 ^ 32 → l < 2 ^ 16 → m < 2 ^ 16 →
    header_bytes a l ++ x ≡ header_bytes b m ++ y → SameHeader a b l m x y
same_header a b l m x y fits-a fits-b fits-l fits-m e =
    let first : from_le_bytes w32 (to_le_bytes w32 a) ≡ from_le_bytes w32 (to_le_bytes w32 b) = ap (λ (t : List ℕ). from_le_bytes w32 (take 4 t)) e in
    let second : from_le_bytes w16 (to_le_bytes w16 l) ≡ from_le_bytes w16 (to_le_bytes w16 m) = ap (λ (t : List ℕ). from_le_bytes w16 (take 2 (drop 4 t))) e in
    record {
      attributes = sym (from_le_bytes-to_le_bytes_4 a fits-a) ∙ first ∙ from_le_bytes-to_le_bytes_4 b fits-b;
      len = sym (from_le_bytes-to_le_bytes_2 l fits-l) ∙ second ∙ from_le_bytes-to_le_bytes_2 m fits-m;
      rest = ap (drop 6) e;
    }

-- ---- the header and the description

-- numbers and units that may be before a list
pub record AreFront (attributes len : ℕ) (units : List ℕ) : Type 0 where
  pub four_bytes : attributes < 2 ^ 32
  pub two_bytes : len < 2 ^ 16
  pub nonzero : AllByRecursion IsUnit units

pub record SameFront (a b l m : ℕ) (us vs x y : List ℕ) : Type 0 where
  pub attributes : a ≡ b
  pub len : l ≡ m
  pub units : us ≡ vs
  pub rest : x ≡ y

-- the bytes of a description and what follows, with the zero unit first after the units
regroup : (us x : List ℕ) → description_bytes us ++ x ≡ units_bytes us ++ (to_le_bytes w16 0 ++ x)
regroup us x = append_assoc (units_bytes us) (to_le_bytes w16 0) x

pub same_front : (a b l m : ℕ) (us vs x y : List ℕ) → AreFront a l us → AreFront b m vs →
    header_bytes a l ++ (description_bytes us ++ x) ≡ header_bytes b m ++ (description_bytes vs ++ y) → SameFront a b l m us vs x y
same_front a b l m us vs x y first second e =
    let header = same_header a b l m (description_bytes us ++ x) (description_bytes vs ++ y) first.four_bytes second.four_bytes
    first.two_bytes second.two_bytes e in
    let units = same_units us vs (to_le_bytes w16 0 ++ x) (to_le_bytes w16 0 ++ y) first.nonzero second.nonzero (zero_stops x)
    (zero_stops y) (sym (regroup us x) ∙ header.rest ∙ regroup vs y) in
    record { attributes = header.attributes; len = header.len; units = units.0; rest = ap (drop 2) units.1 }

-- what no zero unit closes has no description
pub unclosed : (a b l m : ℕ) (us vs left y : List ℕ) → AreFront a l us → AreFront b m vs → length left < 2 →
    header_bytes a l ++ (units_bytes us ++ left) ≡ header_bytes b m ++ (description_bytes vs ++ y) → ⊥
unclosed a b l m us vs left y first second half e =
    let header = same_header a b l m (units_bytes us ++ left) (description_bytes vs ++ y) first.four_bytes second.four_bytes
    first.two_bytes second.two_bytes e in
    let units = same_units us vs left (to_le_bytes w16 0 ++ y) first.nonzero second.nonzero (half_stops left half) (zero_stops y)
    (header.rest ∙ regroup vs y) in
    let size : length left ≡ 2 + length y = ap length units.1 ∙ omega arith in
    omega arith

-- ---- every input has a header, or is short

pub record HasHeader (bytes : List ℕ) (attributes len : ℕ) (rest : List ℕ) : Type 0 where
  pub four_bytes : attributes < 2 ^ 32
  pub two_bytes : len < 2 ^ 16
  pub parts : bytes ≡ header_bytes attributes len ++ rest

header_of : (a b c d l h : ℕ) (rest : List ℕ) → AllByRecursion IsByte (a ∷ b ∷ c ∷ d ∷ l ∷ h ∷ rest) →
    HasHeader (a ∷ b ∷ c ∷ d ∷ l ∷ h ∷ rest) (from_le_bytes w32 (a ∷ b ∷ c ∷ d ∷ [])) (from_le_bytes w16 (l ∷ h ∷ [])) rest
header_of a b c d l h rest fits =
    let at = bytes_from_recursion (a ∷ b ∷ c ∷ d ∷ l ∷ h ∷ rest) fits in
    let four = bytes_from_recursion (a ∷ b ∷ c ∷ d ∷ []) (fits.0, (fits.1.0, (fits.1.1.0, (fits.1.1.1.0, tt)))) in
    let two = bytes_from_recursion (l ∷ h ∷ []) (fits.1.1.1.1.0, (fits.1.1.1.1.1.0, tt)) in
    record {
      four_bytes = omega (arith, four 0, four 1, four 2, four 3);
      two_bytes = omega (arith, two 0, two 1);
      parts = sym (ap (λ (t : List ℕ). (t ++ to_le_bytes w16 (from_le_bytes w16 (l ∷ h ∷ []))) ++ rest)
          (le_bytes_4 (a ∷ b ∷ c ∷ d ∷ []) _ refl four refl) ∙ ap (λ (t : List ℕ). ((a ∷ b ∷ c ∷ d ∷ []) ++ t) ++ rest)
          (le_bytes_2 (l ∷ h ∷ []) _ refl two refl));
    }

abbrev pub Heads : List ℕ → Type 0
Heads bytes = (length bytes < 6) ⊎ ((attributes : ℕ) × (len : ℕ) × (rest : List ℕ) × HasHeader bytes attributes len rest)

pub heads : (bytes : List ℕ) → AllByRecursion IsByte bytes → Heads bytes
heads [] fits = inl (omega arith)
heads (a ∷ []) fits = inl (omega arith)
heads (a ∷ b ∷ []) fits = inl (omega arith)
heads (a ∷ b ∷ c ∷ []) fits = inl (omega arith)
heads (a ∷ b ∷ c ∷ d ∷ []) fits = inl (omega arith)
heads (a ∷ b ∷ c ∷ d ∷ l ∷ []) fits = inl (omega arith)
heads (a ∷ b ∷ c ∷ d ∷ l ∷ h ∷ rest) fits = inr (from_le_bytes w32 (a ∷ b ∷ c ∷ d ∷ []), from_le_bytes w16 (l ∷ h ∷ []), rest, header_of a b c d l h rest fits)

-- ---- some units are closed by a zero unit, or by none

pub record HasDescription (bytes units rest : List ℕ) : Type 0 where
  pub nonzero : AllByRecursion IsUnit units
  pub parts : bytes ≡ description_bytes units ++ rest

abbrev pub Closes : List ℕ → Type 0
Closes bytes = HasNoZero bytes ⊎ ((units : List ℕ) × (rest : List ℕ) × HasDescription bytes units rest)

one_more : (low high : ℕ) (rest : List ℕ) (unit : ℕ) → IsUnit unit → to_le_bytes w16 unit ≡ low ∷ high ∷ [] → Closes rest → Closes (low ∷ high ∷ rest)
one_more low high rest unit is spelled (inl none) = inl (record {
  units = unit ∷ none.units;
  left = none.left;
  nonzero = (is, none.nonzero);
  half = none.half;
  parts = ap (λ (t : List ℕ). low ∷ high ∷ t) none.parts ∙ sym
      (append_assoc (low ∷ high ∷ []) (units_bytes none.units) none.left)
      ∙ ap (λ (t : List ℕ). (t ++ units_bytes none.units) ++ none.left) (sym spelled);
})
one_more low high rest unit is spelled (inr (units, behind, has)) =
    inr (
      unit ∷ units,
      behind,
      record {
        nonzero = (is, has.nonzero);
        parts = ap (λ (t : List ℕ). low ∷ high ∷ t) has.parts ∙ ap (λ (t : List ℕ). ((t ++ units_bytes units) ++ to_le_bytes w16 0) ++ behind) (sym spelled);
      },
    )

pub closes : (bytes : List ℕ) → AllByRecursion IsByte bytes → Closes bytes
closes [] fits = inl (record { units = []; left = []; nonzero = tt; half = omega arith; parts = refl })
closes (low ∷ []) fits = inl (record { units = []; left = low ∷ []; nonzero = tt; half = omega arith; parts = refl })
closes (low ∷ high ∷ rest) fits =
    let two = bytes_from_recursion (low ∷ high ∷ []) (fits.0, (fits.1.0, tt)) in
    let unit = from_le_bytes w16 (low ∷ high ∷ []) in
    let spelled : to_le_bytes w16 unit ≡ low ∷ high ∷ [] = le_bytes_2 (low ∷ high ∷ []) unit refl two refl in
    elim (cases_eq unit 0) [
      | inl zero ↦ inr ([], rest, record { nonzero = tt; parts = ap (λ (t : List ℕ). t ++ rest) (sym spelled ∙ ap (to_le_bytes w16) zero) })
      | inr nonzero ↦ one_more low high rest unit (nonzero, omega (arith, two 0, two 1)) spelled (closes rest fits.1.1)
    ]
