-- Units as bytes, two for each.
use Rattle.std.proofs.Common.{◌≡◌, ◌≢◌, ℕ, ◌+◌, ◌-◌, ◌*◌, ◌<◌, ◌≤◌, ◌^◌, List, [], ◌∷◌, ◌++◌, length, take, drop, get_or, refl, sym, ap}
use Rattle.std.proofs.Common.{subst, ◌∙◌, arith, append_assoc}
use Rattle.std.specs.Int.{w16, from_le_bytes, to_le_bytes}
use Rattle.std.specs.List.{AllByRecursion}
use Rattle.std.proofs.lemmas.Grind.{flat_map-append}
use Rattle.std.proofs.lemmas.List.{take_all, take_at, length-append, append-nil}
use Rattle.std.proofs.lemmas.Nat.{le_bytes_2}
use Rattle.uefi_path.specs.Units.{IsTwoByte, units_bytes, units_of}
use Rattle.uefi_path.specs.Row.{IsByte}
use Rattle.uefi_path.specs.Parts.{IsUnit}
use Rattle.uefi_option.specs.Reader.{AreUnits, SplitsUnits}
use Rattle.uefi_option.proofs.Bytes.{IsBytes, IsBytes-behind, bytes_from_recursion, AllByRecursion-append}

-- ---- the laws of units that lemmas take, each as its function states it

abbrev pub ReadAgain : Type 0
ReadAgain = (units : List ℕ) → AllByRecursion IsTwoByte units → units_of (units_bytes units) ≡ units

abbrev pub TwoBytesEach : Type 0
TwoBytesEach = (units : List ℕ) → AllByRecursion IsByte (units_bytes units) × (length (units_bytes units) ≡ 2 * length units)

-- ---- one unit

-- this is the unit at the start of the rest
pub record IsFirstUnit (rest : List ℕ) (unit : ℕ) : Type 0 where
  pub enough : 2 ≤ length rest
  pub is : unit ≡ from_le_bytes w16 (get_or rest 0 0 ∷ get_or rest 1 0 ∷ [])

first_unit : (low high : ℕ) (rest : List ℕ) (unit : ℕ) → IsBytes (low ∷ high ∷ rest) →
    unit ≡ from_le_bytes w16 (low ∷ high ∷ []) → to_le_bytes w16 unit ≡ low ∷ high ∷ []
first_unit low high rest unit fits is = le_bytes_2 (low ∷ high ∷ []) unit refl (bytes_from_recursion (low ∷ high ∷ []) (fits 0, (fits 1, tt))) is

unit_fits : (low high : ℕ) (rest : List ℕ) (unit : ℕ) → IsBytes (low ∷ high ∷ rest) → unit ≡ from_le_bytes w16 (low ∷ high ∷ []) → unit < 2 ^ 16
unit_fits low high rest unit fits is = omega (arith, fits 0, fits 1, is)

-- ---- units that are read again

pub two_bytes : (units : List ℕ) → AllByRecursion IsUnit units → AllByRecursion IsTwoByte units
two_bytes [] valid = tt
two_bytes (n ∷ units) valid = (valid.0.1, two_bytes units valid.1)

are_units : ReadAgain → (units : List ℕ) → AllByRecursion IsUnit units → AreUnits (units_bytes units)
are_units again units valid =
    let same = again units (two_bytes units valid) in
    record { nonzero = rw same valid; is = ap units_bytes (sym same) }

-- ---- how far units were looked at

-- the bytes up to the rest are those of units, none of which is zero
pub record HasUnits (bytes rest : List ℕ) : Type 0 where
  pub units : List ℕ
  pub nonzero : AllByRecursion IsUnit units
  pub parts : bytes ≡ units_bytes units ++ rest

pub rest_fits : (bytes rest : List ℕ) → HasUnits bytes rest → IsBytes bytes → IsBytes rest
rest_fits bytes rest h fits = IsBytes-behind (units_bytes h.units) rest (subst IsBytes h.parts fits)

-- what a slice pattern calls the bytes after the first two
behind_two : (low high : ℕ) (behind : List ℕ) → take (length (low ∷ high ∷ behind) - 2) (drop 2 (low ∷ high ∷ behind)) ≡ behind
behind_two low high behind = take_all (length (low ∷ high ∷ behind) - 2) behind (omega arith)

pub one_unit : (bytes rest : List ℕ) (unit : ℕ) → HasUnits bytes rest → IsBytes bytes → IsFirstUnit rest unit → unit ≢ 0 →
    HasUnits bytes (take (length rest - 2) (drop 2 rest))
one_unit bytes [] unit h fits first nonzero = absurd (omega (arith, first.enough))
one_unit bytes (low ∷ []) unit h fits first nonzero = absurd (omega (arith, first.enough))
one_unit bytes (low ∷ high ∷ behind) unit h fits first nonzero =
    let here = rest_fits bytes (low ∷ high ∷ behind) h fits in
    let spelled : to_le_bytes w16 unit ≡ low ∷ high ∷ [] = first_unit low high behind unit here first.is in
    let more : units_bytes (h.units ++ unit ∷ []) ≡ units_bytes h.units ++ low ∷ high ∷ [] =
    flat_map-append (to_le_bytes w16) h.units (unit ∷ []) ∙ ap (λ (t : List ℕ). units_bytes h.units ++ t) (append-nil (to_le_bytes w16 unit) ∙ spelled) in
    rw (behind_two low high behind) (record {
      units = h.units ++ unit ∷ [];
      nonzero = AllByRecursion-append IsUnit h.units (unit ∷ []) h.nonzero ((nonzero, unit_fits low high behind unit here first.is), tt);
      parts = h.parts ∙ sym (append_assoc (units_bytes h.units) (low ∷ high ∷ []) behind) ∙ ap (λ (t : List ℕ). t ++ behind) (sym more);
    })

pub zero_unit : ReadAgain → (bytes rest : List ℕ) (unit : ℕ) (description : List ℕ) → HasUnits bytes rest → IsBytes bytes →
    IsFirstUnit rest unit → unit ≡ 0 → description ≡ take (length bytes - length rest) bytes
    → SplitsUnits bytes description (take (length rest - 2) (drop 2 rest))
zero_unit again bytes [] unit description h fits first zero is = absurd (omega (arith, first.enough))
zero_unit again bytes (low ∷ []) unit description h fits first zero is = absurd (omega (arith, first.enough))
zero_unit again bytes (low ∷ high ∷ behind) unit description h fits first zero is =
    let here = rest_fits bytes (low ∷ high ∷ behind) h fits in
    let spelled : to_le_bytes w16 0 ≡ low ∷ high ∷ [] = ap (to_le_bytes w16) (sym zero) ∙ first_unit low high behind unit here first.is in
    let size : length bytes ≡ length (units_bytes h.units) + length (low ∷ high ∷ behind) =
    ap length h.parts ∙ length-append (units_bytes h.units) (low ∷ high ∷ behind) in
    let front : description ≡ units_bytes h.units = is ∙ ap (take (length bytes - length (low ∷ high ∷ behind))) h.parts
    ∙ take_at (units_bytes h.units) (low ∷ high ∷ behind) (length bytes - length (low ∷ high ∷ behind)) (omega arith) in
    rw (behind_two low high behind, front) (record {
      units = are_units again h.units h.nonzero;
      parts = h.parts ∙ sym (append_assoc (units_bytes h.units) (low ∷ high ∷ []) behind)
          ∙ ap (λ (t : List ℕ). (units_bytes h.units ++ t) ++ behind) (sym spelled);
    })
