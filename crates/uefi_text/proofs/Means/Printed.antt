-- What is printed of a number, of bytes, of an address or of a GUID is read as it.
use Rattle.std.proofs.Common.{
  ◌≡◌,
  ◌<◌,
  ◌≤◌,
  ◌+◌,
  ◌*◌,
  ◌/◌,
  ◌%◌,
  ◌^◌,
  ℕ,
  zero,
  suc,
  Bool,
  true,
  false,
  ◌==◌,
  List,
  [],
  ◌∷◌,
  ◌++◌,
  length,
  map,
  take,
  drop,
  reverse,
  refl,
  sym,
  ◌∙◌,
  inl,
  inr,
  codes,
  arith,
  eq-eqb,
  ne_eqb,
}
use mathlib.Core.List.{reverse_aux}
use Rattle.std.proofs.Math.Nat.{pow-suc, div-lt_iff_lt-mul}
use Rattle.std.proofs.lemmas.Bool.Decides.{nat_tests}
use Rattle.std.proofs.lemmas.Bool.{cases_eq}
use Rattle.std.proofs.lemmas.Fmt.{digits_is_IsNumeral, decimal_is_IsNumeral, length-decimal-le}
use Rattle.std.proofs.lemmas.Nat.{from_be_bytes-to_be_bytes_2, from_be_bytes-to_be_bytes_4}
use Rattle.std.specs.Prelude.{if◌then◌else◌}
use Rattle.std.specs.Char.{digit_value}
use Rattle.std.specs.Fmt.{digits, digits_onto, digit_glyph, decimal}
use Rattle.std.specs.Int.{w16, w32, to_be_bytes}
use Rattle.std.specs.List.{AllByRecursion, flat_map}
use Rattle.std.specs.Str.Parse.{AllDigits, digits_value}
use Rattle.uefi_path.specs.Row.{IsByte, AreBytes}
use Rattle.uefi_text.specs.Number.{IsNumber, number_text}
use Rattle.uefi_text.specs.Bytes.{Each, IsPair, IsHexData, pair_text, hex_text, upper_hex_text, IsOctet, IsAddress, address_text, IsByteText, IsEui, eui_text}
use Rattle.uefi_text.specs.Guid.{guid_groups, IsGuid, guid_text}
use Rattle.uefi_text.specs.Node.{pnp, IsPnp}
use Rattle.uefi_text.specs.Printed.{eight_digits, hid_text}
use Rattle.uefi_text.proofs.Means.Reads.{IsHid}

either_is_short : (b : Bool) (x y : List ℕ) (most : ℕ) → length x ≤ most → length y ≤ most → length (if b then x else y) ≤ most
either_is_short true x y most short-x short-y = short-x
either_is_short false x y most short-x short-y = short-y

-- a number with few digits has a short text
digits_length : (j k n : ℕ) (upper : Bool) (acc : List ℕ) → n < 16 ^ suc j → length (digits_onto k 16 upper n acc) ≤ suc j + length acc
digits_length j zero n upper acc h = omega arith
digits_length zero (suc k) n upper acc h =
    let small : n < 16 = h in
    let none : n / 16 ≡ 0 = omega arith in
    rw none (omega arith)
digits_length (suc j) (suc k) n upper acc h =
    let bound : n < 16 ^ suc j * 16 = rw (pow-suc 16 (suc j)) at h in
    let front : n / 16 < 16 ^ suc j = (div-lt_iff_lt-mul {k = 16} {x = n} {y = 16 ^ suc j} (omega arith)).1 bound in
    let more = digits_length j k (n / 16) upper (digit_glyph upper (n % 16) ∷ acc) front in
    either_is_short (n / 16 == 0) (digit_glyph upper (n % 16) ∷ acc)
    (digits_onto k 16 upper (n / 16) (digit_glyph upper (n % 16) ∷ acc)) (suc (suc j) + length acc) (omega arith)
    (omega (arith, more))

pub number_text_length : (n : ℕ) → n < 2 ^ 64 → length (digits 16 false n) ≤ 16
unfolding digits
number_text_length n h = digits_length 15 64 n false [] h

pub number_printed : (n : ℕ) → n < 2 ^ 64 → IsNumber (number_text n) n
number_printed n h =
    let numeral = digits_is_IsNumeral 16 false (omega arith) (omega arith) n (omega arith) in
    inl (digits 16 false n, refl, record { numeral = numeral.0; len = number_text_length n h; value = sym numeral.1 })

pub decimal_printed : (n : ℕ) → n < 2 ^ 64 → IsNumber (decimal n) n
decimal_printed n h =
    let numeral = decimal_is_IsNumeral n h in
    inr (record { numeral = numeral.0; len = length-decimal-le 20 n (omega arith) (omega arith) h; value = sym numeral.1 })

pub octet_printed : (n : ℕ) → n < 2 ^ 8 → IsOctet (decimal n) n
octet_printed n h =
    let numeral = decimal_is_IsNumeral n (omega arith) in
    (record { numeral = numeral.0; len = length-decimal-le 3 n (omega arith) (omega arith) (omega arith); value = sym numeral.1 }, omega arith)

pub glyph_value : (upper : Bool) (d : ℕ) → d < 16 → digit_value (digit_glyph upper d) ≡ d
glyph_value true d h = grind (arith, nat_tests)
glyph_value false d h = grind (arith, nat_tests)

high_value : (upper : Bool) (byte : ℕ) → IsByte byte → digit_value (digit_glyph upper (byte / 16)) ≡ byte / 16
high_value upper byte h = glyph_value upper (byte / 16) (omega arith)

low_value : (upper : Bool) (byte : ℕ) → digit_value (digit_glyph upper (byte % 16)) ≡ byte % 16
low_value upper byte = glyph_value upper (byte % 16) (omega arith)

pub pair_printed : (upper : Bool) (byte : ℕ) → IsByte byte → IsPair (digit_glyph upper (byte / 16)) (digit_glyph upper (byte % 16)) byte
pair_printed upper byte h =
    let high = high_value upper byte h in
    let low = low_value upper byte in
    record { high_digit = rw high (omega arith); low_digit = rw low (omega arith); value = rw (high, low) (omega arith) }

pub hex_printed : (bytes : List ℕ) → AllByRecursion IsByte bytes → IsHexData (hex_text bytes) bytes
hex_printed [] h = tt
hex_printed (byte ∷ bytes) h = (pair_printed false byte h.0, hex_printed bytes h.1)

-- pairs of digits are digits
pub pairs_are_digits : (upper : Bool) (bytes : List ℕ) → AllByRecursion IsByte bytes → AllDigits 16 (flat_map (pair_text upper) bytes)
pairs_are_digits upper [] h = tt
pairs_are_digits upper (byte ∷ bytes) h =
    let pair = pair_printed upper byte h.0 in
    (pair.high_digit, (pair.low_digit, pairs_are_digits upper bytes h.1))

value_of_two : (upper : Bool) (a b : ℕ) → IsByte a → IsByte b → digits_value 16 (flat_map (pair_text upper) (a ∷ b ∷ [])) ≡ a * 256 + b
value_of_two upper a b ha hb =
    let a1 = high_value upper a ha in let a0 = low_value upper a in
    let b1 = high_value upper b hb in let b0 = low_value upper b in
    rw (a1, a0, b1, b0) (omega arith)

value_of_four : (upper : Bool) (a b c d : ℕ) → IsByte a → IsByte b → IsByte c → IsByte d →
    digits_value 16 (flat_map (pair_text upper) (a ∷ b ∷ c ∷ d ∷ [])) ≡ a * 16777216 + b * 65536 + c * 256 + d
value_of_four upper a b c d ha hb hc hd =
    let a1 = high_value upper a ha in let a0 = low_value upper a in
    let b1 = high_value upper b hb in let b0 = low_value upper b in
    let c1 = high_value upper c hc in let c0 = low_value upper c in
    let d1 = high_value upper d hd in let d0 = low_value upper d in
    rw (a1, a0, b1, b0, c1, c0, d1, d0) (omega arith)

-- a number of 16 bits as four digits
pub four_digits : (upper : Bool) (n : ℕ) → n < 2 ^ 16 → digits_value 16 (flat_map (pair_text upper) (to_be_bytes w16 n)) ≡ n
four_digits upper n h = value_of_two upper _ _ (omega arith) (omega arith) ∙ from_be_bytes-to_be_bytes_2 n h

pub eight_digits_value : (upper : Bool) (n : ℕ) → n < 2 ^ 32 → digits_value 16 (flat_map (pair_text upper) (to_be_bytes w32 n)) ≡ n
eight_digits_value upper n h = value_of_four upper _ _ _ _ (omega arith) (omega arith) (omega arith) (omega arith) ∙ from_be_bytes-to_be_bytes_4 n h

-- a number of 32 bits with all its eight digits
pub eight_digits_printed : (n : ℕ) → n < 2 ^ 32 → IsNumber (eight_digits n) n
eight_digits_printed n h =
    inl (
      hex_text (to_be_bytes w32 n),
      refl,
      record {
        numeral = (omega arith, pairs_are_digits false (to_be_bytes w32 n) (omega arith, (omega arith, (omega arith, (omega arith, tt)))));
        len = omega arith;
        value = sym (eight_digits_value false n h);
      },
    )

-- an identifier that begins with PNP
pub pnp_printed : (hid : ℕ) → hid < 2 ^ 32 → hid % 0x10000 ≡ pnp → IsPnp (codes "PNP" ++ upper_hex_text (to_be_bytes w16 (hid / 0x10000))) hid
pnp_printed hid h low =
    let high : hid / 0x10000 < 2 ^ 16 = omega arith in
    let value = four_digits true (hid / 0x10000) high in
    record {
      four = upper_hex_text (to_be_bytes w16 (hid / 0x10000));
      is = refl;
      all = pairs_are_digits true (to_be_bytes w16 (hid / 0x10000)) (omega arith, (omega arith, tt));
      len = refl;
      value = rw value (omega arith);
    }

pub hid_printed : (hid : ℕ) → hid < 2 ^ 32 → IsHid (hid_text hid) hid
hid_printed hid h =
    elim (cases_eq (hid % 0x10000) pnp) [
      | inl same ↦ rw (eq-eqb (hid % 0x10000) pnp same) (inl (pnp_printed hid h same))
      | inr other ↦ rw (ne_eqb (hid % 0x10000) pnp other) (inr (eight_digits_printed hid h))
    ]

octets_printed : (bytes : List ℕ) → AllByRecursion IsByte bytes → Each IsOctet (map decimal bytes) bytes
octets_printed [] h = tt
octets_printed (byte ∷ bytes) h = (octet_printed byte h.0, octets_printed bytes h.1)

pub address_printed : (bytes : List ℕ) → AllByRecursion IsByte bytes → IsAddress (address_text bytes) bytes
address_printed bytes h = (map decimal bytes, refl, octets_printed bytes h)

byte_texts_printed : (bytes : List ℕ) → AllByRecursion IsByte bytes → Each IsByteText (map (pair_text false) bytes) bytes
byte_texts_printed [] h = tt
byte_texts_printed (byte ∷ bytes) h = ((pair_printed false byte h.0, tt), byte_texts_printed bytes h.1)

pub eui_printed : (bytes : List ℕ) → AllByRecursion IsByte bytes → IsEui (eui_text bytes) bytes
eui_printed bytes h = (map (pair_text false) bytes, refl, byte_texts_printed bytes h)

pub all_take : (P : ℕ → Type 0) (n : ℕ) (xs : List ℕ) → AllByRecursion P xs → AllByRecursion P (take n xs)
all_take P zero xs h = tt
all_take P (suc n) [] h = tt
all_take P (suc n) (x ∷ xs) h = (h.0, all_take P n xs h.1)

pub all_drop : (P : ℕ → Type 0) (n : ℕ) (xs : List ℕ) → AllByRecursion P xs → AllByRecursion P (drop n xs)
all_drop P zero xs h = h
all_drop P (suc n) [] h = tt
all_drop P (suc n) (x ∷ xs) h = all_drop P n xs h.1

all_reverse_onto : (P : ℕ → Type 0) (xs ys : List ℕ) → AllByRecursion P xs → AllByRecursion P ys → AllByRecursion P (reverse_aux xs ys)
all_reverse_onto P [] ys p q = q
all_reverse_onto P (x ∷ xs) ys p q = all_reverse_onto P xs (x ∷ ys) p.1 (p.0, q)

all_reverse : (P : ℕ → Type 0) (xs : List ℕ) → AllByRecursion P xs → AllByRecursion P (reverse xs)
all_reverse P xs h = all_reverse_onto P xs [] h tt

pub guid_printed_is : (guid : List ℕ) → AreBytes 16 guid → IsGuid (guid_text guid) guid
guid_printed_is guid are =
    let front = λ (n : ℕ) (xs : List ℕ) (h : AllByRecursion IsByte xs). hex_printed (take n xs) (all_take IsByte n xs h) in
    let turned = λ (n : ℕ) (xs : List ℕ) (h : AllByRecursion IsByte xs). hex_printed (reverse (take n xs))
    (all_reverse IsByte (take n xs) (all_take IsByte n xs h)) in
    let behind = λ (n : ℕ). all_drop IsByte n guid are.1 in
    record {
      groups = map hex_text (guid_groups guid);
      joined = refl;
      read = (
        turned 4 guid are.1,
        (
          turned 2 (drop 4 guid) (behind 4),
          (turned 2 (drop 6 guid) (behind 6), (front 2 (drop 8 guid) (behind 8), (hex_printed (drop 10 guid) (behind 10), tt))),
        ),
      );
      len = are.0;
    }
