-- The units of a name, and the bytes of one.
use Rattle.std.proofs.Common.{
  ◌≡◌,
  ◌≢◌,
  ℕ,
  suc,
  ◌+◌,
  ◌-◌,
  ◌*◌,
  ◌^◌,
  ◌<◌,
  ◌≤◌,
  List,
  [],
  ◌∷◌,
  ◌++◌,
  length,
  take,
  drop,
  get_or,
  eqb,
  Option,
  Some,
  None,
  Result,
  Ok,
  Err,
  refl,
  sym,
  ap,
  subst,
  ◌∙◌,
  arith,
  inl,
  inr,
}
use Rattle.std.specs.Prelude.{◌==◌, is_some, IsSome, IfSome}
use Rattle.std.specs.Option.{option_map}
use Rattle.std.specs.Int.{w16, to_le_bytes, from_le_bytes}
use Rattle.std.specs.List.{position, position_or_len, AllByRecursion}
use Rattle.std.proofs.lemmas.List.Elements.{recursion_from_All, All-from_get_or}
use Rattle.std.proofs.lemmas.List.Sums.{fails_before_first}
use Rattle.std.proofs.lemmas.Option.{none-some}
use Rattle.std.proofs.lemmas.List.{nil_from_length, take_all, take_at}
use Rattle.std.proofs.lemmas.Bool.{cases_lt, lt-ltb, ne_eqb, eqb-true, eqb-false, cond_both, false≢true}
use Rattle.uefi_path.specs.Parts.{IsUnit, name_bytes}
use Rattle.uefi_path.specs.Row.{IsByte, AreBytes, IsClosed, last_zero, another_unit}
use Rattle.uefi_path.specs.Reader.{name_of}
use Rattle.uefi_path.specs.Units.{IsTwoByte, units_bytes, units_of}
use Rattle.uefi_path.proofs.Bytes.{IsBytes}
use Rattle.uefi_path.proofs.Numbers.{wide_16}
use Rattle.uefi_path.proofs.TwoBytes.{units_again, units_length}

-- this is the unit at the start of the rest
pub record IsFront (rest : List ℕ) (unit : ℕ) : Type 0 where
  pub enough : 2 ≤ length rest
  pub is : unit ≡ from_le_bytes w16 (get_or rest 0 0 ∷ get_or rest 1 0 ∷ [])

is_some-option_map : (unit : ℕ) (found : Option (List ℕ)) → is_some (option_map (λ (name : List ℕ). unit ∷ name) found) ≡ is_some found
is_some-option_map unit None = refl
is_some-option_map unit (Some name) = refl

-- a unit that is not zero doesn't decide whether bytes are a name's
pub unit_passed : (rest : List ℕ) (unit : ℕ) → IsFront rest unit → unit ≢ 0 → is_some (name_of (take (length rest - 2) (drop 2 rest))) ≡ is_some (name_of rest)
unit_passed [] unit front nonzero = absurd (omega (arith, front.enough))
unit_passed (low ∷ []) unit front nonzero = absurd (omega (arith, front.enough))
unit_passed (low ∷ high ∷ behind) unit front nonzero =
    let here : name_of (low ∷ high ∷ behind) ≡ option_map (λ (name : List ℕ). unit ∷ name) (name_of behind) = rw (← front.is, ne_eqb unit 0 nonzero) refl in
    rw (take_all (length (low ∷ high ∷ behind) - 2) behind (omega arith), here) (sym (is_some-option_map unit (name_of behind)))

-- ---- what a caller gives

no_earlier : (units : List ℕ) → position (λ (u : ℕ). u == 0) units ≡ None → length units ≤ position_or_len (λ (u : ℕ). u == 0) units
no_earlier units none =
    let first = position_or_len (λ (u : ℕ). u == 0) units in
    elim (cases_lt first (length units)) [
      | inl lt ↦ let some : position (λ (u : ℕ). u == 0) units ≡ Some first =
          rw (lt-ltb first (length units) lt) refl in absurd (none-some first (sym none ∙ some))
      | inr le ↦ le
    ]

-- the units are a name's if no first zero is found
pub no_zero : (units : List ℕ) → ((i : ℕ) → get_or units i 0 < 2 ^ 16) → position (λ (u : ℕ). u == 0) units ≡ None → AllByRecursion IsUnit units
no_zero units fits none =
    recursion_from_All IsUnit units (All-from_get_or IsUnit units 0 (λ i lt.
    (eqb-false _ 0 (fails_before_first (λ (u : ℕ). u == 0) units i 0 (omega (arith, no_earlier units none))), fits i)))

-- ---- what is refused

pub no_refusal : {T F P : Type 0} (value : T) (fault : F) → Ok value ≡ Err fault → P
no_refusal value fault e = cc

pub same_refusal : {T F : Type 0} (a b : F) → ◌≡◌ {A = Result T F} (Err a) (Err b) → a ≡ b
same_refusal a b e = cc

-- ---- what is read

-- the bytes are this name and its zero
pub record IsNamed (bytes units : List ℕ) : Type 0 where
  pub closed : IsClosed bytes
  pub valid : AllByRecursion IsUnit units
  pub len : length bytes ≡ 2 * length units + 2
  pub same : name_bytes units ≡ bytes

zero_alone : (low high : ℕ) → from_le_bytes w16 (low ∷ high ∷ []) ≡ 0 → IsNamed (low ∷ high ∷ []) []
zero_alone low high none =
    let low-is : low ≡ 0 = omega arith in
    let high-is : high ≡ 0 = omega arith in
    rw (low-is, high-is) (record { closed = last_zero; valid = tt; len = refl; same = refl })

unit_before : (low high : ℕ) (rest : List ℕ) → IsBytes (low ∷ high ∷ rest) → from_le_bytes w16 (low ∷ high ∷ []) ≢ 0 →
    (found : Option (List ℕ)) → IfSome found (IsNamed rest)
    → IfSome (option_map (λ (name : List ℕ). from_le_bytes w16 (low ∷ high ∷ []) ∷ name) found) (IsNamed (low ∷ high ∷ rest))
unit_before low high rest fits nonzero None named = tt
unit_before low high rest fits nonzero (Some name) named =
    let pair : AreBytes 2 (low ∷ high ∷ []) = (refl, (fits 0, (fits 1, tt))) in
    let here : to_le_bytes w16 (from_le_bytes w16 (low ∷ high ∷ [])) ≡ low ∷ high ∷ [] = wide_16.same (low ∷ high ∷ []) pair in
    record {
      closed = another_unit nonzero named.closed;
      valid = ((nonzero, wide_16.below (low ∷ high ∷ []) pair), named.valid);
      len = omega (arith, named.len);
      same = ap (λ (t : List ℕ). t ++ name_bytes name) here ∙ ap (λ (t : List ℕ). low ∷ high ∷ t) named.same;
    }

pub name_found : (bytes : List ℕ) → IsBytes bytes → IfSome (name_of bytes) (IsNamed bytes)
name_found [] fits = tt
name_found (low ∷ []) fits = tt
name_found (low ∷ high ∷ rest) fits =
    let number = from_le_bytes w16 (low ∷ high ∷ []) in
    let P : Option (List ℕ) → Type 0 = λ found. IfSome found (IsNamed (low ∷ high ∷ rest)) in
    cond_both (eqb number 0) _ _ P (λ zero.
    cond_both (eqb (length rest) 0) _ _ P (λ end.
    let none : rest ≡ [] = nil_from_length rest (eqb-true (length rest) 0 end) in
    rw none (zero_alone low high (eqb-true number 0 zero))) (λ _. tt)) (λ other.
    unit_before low high rest fits (eqb-false number 0 other) (name_of rest) (name_found rest (λ i. fits (suc (suc i)))))

two_bytes_each : (units : List ℕ) → AllByRecursion IsUnit units → AllByRecursion IsTwoByte units
two_bytes_each [] valid = tt
two_bytes_each (unit ∷ units) valid = (valid.0.1, two_bytes_each units valid.1)

-- the units of a name are those of its bytes without the last two
named_units : (bytes units : List ℕ) → IsNamed bytes units → units_of (take (length bytes - 2) bytes) ≡ units
named_units bytes units named =
    let size : length (units_bytes units) ≡ length bytes - 2 = omega (arith, named.len, units_length units) in
    let front : take (length bytes - 2) bytes ≡ units_bytes units = ap (λ (t : List ℕ). take (length bytes - 2) t)
    (sym named.same) ∙ take_at (units_bytes units) (to_le_bytes w16 0) (length bytes - 2) size in
    ap units_of front ∙ units_again units (two_bytes_each units named.valid)

pub record AreUnitsOf (bytes units : List ℕ) : Type 0 where
  pub is : Some units ≡ name_of bytes
  pub valid : AllByRecursion IsUnit units
  pub len : length bytes ≡ 2 * length units + 2

units_found : (bytes : List ℕ) (found : Option (List ℕ)) → found ≡ name_of bytes → IsSome found →
    IfSome found (IsNamed bytes) → AreUnitsOf bytes (units_of (take (length bytes - 2) bytes))
units_found bytes None e some named = absurd (false≢true some)
units_found bytes (Some units) e some named = subst (λ (us : List ℕ). AreUnitsOf bytes us)
    (sym (named_units bytes units named)) (record { is = e; valid = named.valid; len = named.len })

pub units_of_name : (bytes : List ℕ) → IsBytes bytes → IsSome (name_of bytes) → AreUnitsOf bytes (units_of (take (length bytes - 2) bytes))
units_of_name bytes fits some = units_found bytes (name_of bytes) refl some (name_found bytes fits)

closed_rest : (unit : ℕ) (found : Option (List ℕ)) → IsSome found → IsSome (option_map (λ (name : List ℕ). unit ∷ name) found)
closed_rest unit None some = some
closed_rest unit (Some name) some = some

pub name_listed : (bytes : List ℕ) → IsClosed bytes → IsSome (name_of bytes)
name_listed _ last_zero = refl
name_listed _ (another_unit {low} {high} {rest} nonzero others) =
    rw (ne_eqb (from_le_bytes w16 (low ∷ high ∷ [])) 0 nonzero) (closed_rest _ (name_of rest) (name_listed rest others))

-- ---- what is written

pub name_again : (units : List ℕ) → AllByRecursion IsUnit units → name_of (name_bytes units) ≡ Some units
name_again [] valid = refl
name_again (n ∷ units) valid =
    let here : from_le_bytes w16 (to_le_bytes w16 n) ≡ n = wide_16.again n valid.0.1 in
    rw (here, ne_eqb n 0 valid.0.0, name_again units valid.1) refl

pub name_length : (units : List ℕ) → length (name_bytes units) ≡ 2 * length units + 2
name_length [] = refl
name_length (n ∷ units) = omega (arith, name_length units)

pub name_of_bytes : (units : List ℕ) → AllByRecursion IsByte (name_bytes units)
name_of_bytes [] = wide_16.bytes 0
name_of_bytes (n ∷ units) = ((wide_16.bytes n).0, ((wide_16.bytes n).1.0, name_of_bytes units))

pub name_closed : (units : List ℕ) → AllByRecursion IsUnit units → IsClosed (name_bytes units)
name_closed [] valid = last_zero
name_closed (n ∷ units) valid =
    let here : from_le_bytes w16 (to_le_bytes w16 n) ≡ n = wide_16.again n valid.0.1 in
    another_unit (rw here valid.0.0) (name_closed units valid.1)
