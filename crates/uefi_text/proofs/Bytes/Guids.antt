-- The text of a GUID, as the crate `uuid` writes it and reads it.
--
-- What is proved: `uuid` prints sixteen bytes as the five groups of digits that our definition has (`guid_printed`), and
-- what it reads of a text is exactly what that definition reads (`guid_found`, `guid_again`, `guid_only`, `guid_none`).
--
-- How: both are finite, so both are computed on a list of sixteen named bytes, or of 32 named digits, where all steps of
-- the two definitions reduce and only facts on single digits are left; congruence closure (`cc`) puts these together.
-- `sixteen` says that each list of sixteen is such a list. `cells_printed` computes what is printed, `cells_parsed` what is
-- parsed. `cells_again` takes the digits of the five groups off one pair after the other (`hex_cells`, `hex_end`,
-- `group_cells`, `group_end`), each time with the text as far as it is known in the property; its 32 steps all have the
-- same form, so one reads the first of each group, and the last line, where `cells_parsed` is applied to all of them.
use Rattle.std.proofs.Common.{
  ◌≡◌,
  ◌<◌,
  ◌+◌,
  ◌*◌,
  ◌/◌,
  ◌%◌,
  ℕ,
  Bool,
  eqb,
  ◌&&◌,
  subst,
  true,
  false,
  List,
  [],
  ◌∷◌,
  length,
  length-append,
  refl,
  ap,
  sym,
  ◌∙◌,
  arith,
}
use Rattle.std.proofs.lemmas.Bool.Decides.{nat_tests}
use Rattle.std.specs.Fmt.{digit_glyph}
use Rattle.uuid.specs.Text.{by_index, hyphenated_text, hex_digit, lower, is_hex_digit, value_of, byte_of_digits, parsed_simple, digits_of, has_hyphens, parsed}
use Rattle.uuid.specs.Parts.{swap_fields}
use Rattle.uefi_path.specs.Row.{IsByte, AreBytes}
use Rattle.std.specs.Prelude.{Some, None, Option, slice_index, if◌then◌else◌}
use Rattle.std.proofs.lemmas.Bool.{and_parts}
use Rattle.std.proofs.lemmas.List.{get_or_default}
use Rattle.std.specs.Option.{option_map}
use Rattle.uefi_text.specs.Reader.{guid_read}
use Rattle.uuid.proofs.RoundTrips.{swap_twice}
use Rattle.uuid.proofs.TextLemmas.{by_index_same}
use Rattle.std.specs.List.{list_all, AllByRecursion, join_with_byte}
use Rattle.std.specs.Char.{digit_value}
use Rattle.uefi_text.specs.Bytes.{hyphen, IsPair, IsHexData, Each}
use Rattle.uefi_text.specs.Guid.{guid_groups, guid_text, IsGuid}

-- the two crates' words for a digit agree
same_digit : (d : ℕ) → hex_digit lower d ≡ digit_glyph false d
same_digit d = grind (arith, nat_tests)

high_half : (b : ℕ) → b < 256 → hex_digit lower (b / 16 % 16) ≡ digit_glyph false (b / 16)
high_half b h = ap (hex_digit lower) (omega arith) ∙ same_digit (b / 16)

cells_printed : (a0 a1 a2 a3 a4 a5 a6 a7 a8 a9 a10 a11 a12 a13 a14 a15 : ℕ) → a0 < 256 → a1 < 256 → a2 < 256 →
    a3 < 256 → a4 < 256 → a5 < 256 → a6 < 256 → a7 < 256 → a8 < 256 → a9 < 256 → a10 < 256 → a11 < 256 → a12 < 256 →
    a13 < 256 → a14 < 256 → a15 < 256
    → hyphenated_text lower (swap_fields
    (a0 ∷ a1 ∷ a2 ∷ a3 ∷ a4 ∷ a5 ∷ a6 ∷ a7 ∷ a8 ∷ a9 ∷ a10 ∷ a11 ∷ a12 ∷ a13 ∷ a14 ∷ a15 ∷ [])) ≡ guid_text
    (a0 ∷ a1 ∷ a2 ∷ a3 ∷ a4 ∷ a5 ∷ a6 ∷ a7 ∷ a8 ∷ a9 ∷ a10 ∷ a11 ∷ a12 ∷ a13 ∷ a14 ∷ a15 ∷ [])
unfolding by_index
cells_printed a0 a1 a2 a3 a4 a5 a6 a7 a8 a9 a10 a11 a12 a13 a14 a15 h0 h1 h2 h3 h4 h5 h6 h7 h8 h9 h10 h11 h12 h13 h14 h15 =
    let e0 = high_half a0 h0 in let f0 = same_digit (a0 % 16) in
    let e1 = high_half a1 h1 in let f1 = same_digit (a1 % 16) in
    let e2 = high_half a2 h2 in let f2 = same_digit (a2 % 16) in
    let e3 = high_half a3 h3 in let f3 = same_digit (a3 % 16) in
    let e4 = high_half a4 h4 in let f4 = same_digit (a4 % 16) in
    let e5 = high_half a5 h5 in let f5 = same_digit (a5 % 16) in
    let e6 = high_half a6 h6 in let f6 = same_digit (a6 % 16) in
    let e7 = high_half a7 h7 in let f7 = same_digit (a7 % 16) in
    let e8 = high_half a8 h8 in let f8 = same_digit (a8 % 16) in
    let e9 = high_half a9 h9 in let f9 = same_digit (a9 % 16) in
    let e10 = high_half a10 h10 in let f10 = same_digit (a10 % 16) in
    let e11 = high_half a11 h11 in let f11 = same_digit (a11 % 16) in
    let e12 = high_half a12 h12 in let f12 = same_digit (a12 % 16) in
    let e13 = high_half a13 h13 in let f13 = same_digit (a13 % 16) in
    let e14 = high_half a14 h14 in let f14 = same_digit (a14 % 16) in
    let e15 = high_half a15 h15 in let f15 = same_digit (a15 % 16) in
    cc

-- a property of all lists of sixteen numbers
pub sixteen : (P : List ℕ → Type 0) →
    ((a0 a1 a2 a3 a4 a5 a6 a7 a8 a9 a10 a11 a12 a13 a14 a15 : ℕ) →
    P (a0 ∷ a1 ∷ a2 ∷ a3 ∷ a4 ∷ a5 ∷ a6 ∷ a7 ∷ a8 ∷ a9 ∷ a10 ∷ a11 ∷ a12 ∷ a13 ∷ a14 ∷ a15 ∷ [])) → (xs : List ℕ) →
    length xs ≡ 16 → P xs
sixteen P p (a0 ∷ a1 ∷ a2 ∷ a3 ∷ a4 ∷ a5 ∷ a6 ∷ a7 ∷ a8 ∷ a9 ∷ a10 ∷ a11 ∷ a12 ∷ a13 ∷ a14 ∷ a15 ∷ []) h =
    p a0 a1 a2 a3 a4 a5 a6 a7 a8 a9 a10 a11 a12 a13 a14 a15
sixteen P p [] h = absurd (omega (arith, h))
sixteen P p (_ ∷ []) h = absurd (omega (arith, h))
sixteen P p (_ ∷ _ ∷ []) h = absurd (omega (arith, h))
sixteen P p (_ ∷ _ ∷ _ ∷ []) h = absurd (omega (arith, h))
sixteen P p (_ ∷ _ ∷ _ ∷ _ ∷ []) h = absurd (omega (arith, h))
sixteen P p (_ ∷ _ ∷ _ ∷ _ ∷ _ ∷ []) h = absurd (omega (arith, h))
sixteen P p (_ ∷ _ ∷ _ ∷ _ ∷ _ ∷ _ ∷ []) h = absurd (omega (arith, h))
sixteen P p (_ ∷ _ ∷ _ ∷ _ ∷ _ ∷ _ ∷ _ ∷ []) h = absurd (omega (arith, h))
sixteen P p (_ ∷ _ ∷ _ ∷ _ ∷ _ ∷ _ ∷ _ ∷ _ ∷ []) h = absurd (omega (arith, h))
sixteen P p (_ ∷ _ ∷ _ ∷ _ ∷ _ ∷ _ ∷ _ ∷ _ ∷ _ ∷ []) h = absurd (omega (arith, h))
sixteen P p (_ ∷ _ ∷ _ ∷ _ ∷ _ ∷ _ ∷ _ ∷ _ ∷ _ ∷ _ ∷ []) h = absurd (omega (arith, h))
sixteen P p (_ ∷ _ ∷ _ ∷ _ ∷ _ ∷ _ ∷ _ ∷ _ ∷ _ ∷ _ ∷ _ ∷ []) h = absurd (omega (arith, h))
sixteen P p (_ ∷ _ ∷ _ ∷ _ ∷ _ ∷ _ ∷ _ ∷ _ ∷ _ ∷ _ ∷ _ ∷ _ ∷ []) h = absurd (omega (arith, h))
sixteen P p (_ ∷ _ ∷ _ ∷ _ ∷ _ ∷ _ ∷ _ ∷ _ ∷ _ ∷ _ ∷ _ ∷ _ ∷ _ ∷ []) h = absurd (omega (arith, h))
sixteen P p (_ ∷ _ ∷ _ ∷ _ ∷ _ ∷ _ ∷ _ ∷ _ ∷ _ ∷ _ ∷ _ ∷ _ ∷ _ ∷ _ ∷ []) h = absurd (omega (arith, h))
sixteen P p (_ ∷ _ ∷ _ ∷ _ ∷ _ ∷ _ ∷ _ ∷ _ ∷ _ ∷ _ ∷ _ ∷ _ ∷ _ ∷ _ ∷ _ ∷ []) h = absurd (omega (arith, h))
sixteen P p (_ ∷ _ ∷ _ ∷ _ ∷ _ ∷ _ ∷ _ ∷ _ ∷ _ ∷ _ ∷ _ ∷ _ ∷ _ ∷ _ ∷ _ ∷ _ ∷ _ ∷ more) h = absurd (omega (arith, h))

pub guid_printed : (guid : List ℕ) → AreBytes 16 guid → hyphenated_text lower (swap_fields guid) ≡ guid_text guid
guid_printed guid h =
    sixteen (λ xs. AllByRecursion IsByte xs → hyphenated_text lower (swap_fields xs) ≡ guid_text xs)
    (λ a0 a1 a2 a3 a4 a5 a6 a7 a8 a9 a10 a11 a12 a13 a14 a15 fits. cells_printed a0 a1 a2 a3 a4 a5 a6 a7 a8 a9 a10 a11
    a12 a13 a14 a15 fits.0 fits.1.0 fits.1.1.0 fits.1.1.1.0 fits.1.1.1.1.0 fits.1.1.1.1.1.0 fits.1.1.1.1.1.1.0
    fits.1.1.1.1.1.1.1.0 fits.1.1.1.1.1.1.1.1.0 fits.1.1.1.1.1.1.1.1.1.0 fits.1.1.1.1.1.1.1.1.1.1.0
    fits.1.1.1.1.1.1.1.1.1.1.1.0 fits.1.1.1.1.1.1.1.1.1.1.1.1.0 fits.1.1.1.1.1.1.1.1.1.1.1.1.1.0
    fits.1.1.1.1.1.1.1.1.1.1.1.1.1.1.0 fits.1.1.1.1.1.1.1.1.1.1.1.1.1.1.1.0) guid h.0 h.1

-- what a digit is, in the words of the two crates
digit_of_hex : (c : ℕ) → is_hex_digit c ≡ true → (digit_value c < 16) × (value_of c ≡ digit_value c)
digit_of_hex c h = (grind (arith, nat_tests), grind (arith, nat_tests))

hex_of_digit : (c : ℕ) → digit_value c < 16 → (is_hex_digit c ≡ true) × (value_of c ≡ digit_value c)
hex_of_digit c h = (grind (arith, nat_tests), grind (arith, nat_tests))

-- the two digits of a byte, in the words of uuid
record IsRead (high low byte : ℕ) : Type 0 where
  high_digit : is_hex_digit high ≡ true
  low_digit : is_hex_digit low ≡ true
  value : value_of high * 16 + value_of low ≡ byte

read_of_pair : (high low byte : ℕ) → IsPair high low byte → IsRead high low byte
read_of_pair high low byte pair =
    let h = hex_of_digit high pair.high_digit in
    let l = hex_of_digit low pair.low_digit in
    record { high_digit = h.0; low_digit = l.0; value = ap (λ v. v * 16 + value_of low) h.1 ∙ ap (λ v. digit_value high * 16 + v) l.1 ∙ sym pair.value }

pair_of_read : (high low : ℕ) → is_hex_digit high ≡ true → is_hex_digit low ≡ true → IsPair high low (value_of high * 16 + value_of low)
pair_of_read high low h l =
    let high_is = digit_of_hex high h in
    let low_is = digit_of_hex low l in
    record { high_digit = high_is.0; low_digit = low_is.0; value = ap (λ v. v * 16 + value_of low) high_is.1 ∙ ap (λ v. digit_value high * 16 + v) low_is.1 }

-- all of a list are digits
all_are : (cs : List ℕ) → AllByRecursion (λ c. is_hex_digit c ≡ true) cs → list_all is_hex_digit cs ≡ true
all_are [] h = refl
all_are (c ∷ cs) h = rw (h.0, all_are cs h.1) refl

simple_is : (hex out : List ℕ) → length hex ≡ 32 → list_all is_hex_digit hex ≡ true → by_index 16 (byte_of_digits hex) ≡ out → parsed_simple hex ≡ Some out
simple_is hex out len all e = rw (len, all) (ap (λ (x : List ℕ). Some x) e)

hyphenated_is : (s out : List ℕ) → length s ≡ 36 → has_hyphens s ≡ true → parsed_simple (digits_of s) ≡ Some out → parsed s ≡ Some out
hyphenated_is s out len marks e = rw (len, marks) e

cells_parsed : (h0 l0 h1 l1 h2 l2 h3 l3 h4 l4 h5 l5 h6 l6 h7 l7 h8 l8 h9 l9 h10 l10 h11 l11 h12 l12 h13 l13 h14 l14
    h15 l15 a0 a1 a2 a3 a4 a5 a6 a7 a8 a9 a10 a11 a12 a13 a14 a15 : ℕ) → IsPair h0 l0 a3 → IsPair h1 l1 a2 →
    IsPair h2 l2 a1 → IsPair h3 l3 a0 → IsPair h4 l4 a5 → IsPair h5 l5 a4 → IsPair h6 l6 a7 → IsPair h7 l7 a6 →
    IsPair h8 l8 a8 → IsPair h9 l9 a9 → IsPair h10 l10 a10 → IsPair h11 l11 a11 → IsPair h12 l12 a12 →
    IsPair h13 l13 a13 → IsPair h14 l14 a14 → IsPair h15 l15 a15
    → parsed (h0 ∷ l0 ∷ h1 ∷ l1 ∷ h2 ∷ l2 ∷ h3 ∷ l3 ∷ 45 ∷ h4 ∷ l4 ∷ h5 ∷ l5 ∷ 45 ∷ h6 ∷ l6 ∷ h7 ∷ l7 ∷ 45 ∷ h8 ∷ l8
    ∷ h9 ∷ l9 ∷ 45 ∷ h10 ∷ l10 ∷ h11 ∷ l11 ∷ h12 ∷ l12 ∷ h13 ∷ l13 ∷ h14 ∷ l14 ∷ h15 ∷ l15 ∷ []) ≡ Some
    (swap_fields (a0 ∷ a1 ∷ a2 ∷ a3 ∷ a4 ∷ a5 ∷ a6 ∷ a7 ∷ a8 ∷ a9 ∷ a10 ∷ a11 ∷ a12 ∷ a13 ∷ a14 ∷ a15 ∷ []))
unfolding by_index
cells_parsed h0 l0 h1 l1 h2 l2 h3 l3 h4 l4 h5 l5 h6 l6 h7 l7 h8 l8 h9 l9 h10 l10 h11 l11 h12 l12 h13 l13 h14 l14 h15
    l15 a0 a1 a2 a3 a4 a5 a6 a7 a8 a9 a10 a11 a12 a13 a14 a15 p0 p1 p2 p3 p4 p5 p6 p7 p8 p9 p10 p11 p12 p13 p14 p15 =
    let r0 = read_of_pair h0 l0 a3 p0 in
    let r1 = read_of_pair h1 l1 a2 p1 in
    let r2 = read_of_pair h2 l2 a1 p2 in
    let r3 = read_of_pair h3 l3 a0 p3 in
    let r4 = read_of_pair h4 l4 a5 p4 in
    let r5 = read_of_pair h5 l5 a4 p5 in
    let r6 = read_of_pair h6 l6 a7 p6 in
    let r7 = read_of_pair h7 l7 a6 p7 in
    let r8 = read_of_pair h8 l8 a8 p8 in
    let r9 = read_of_pair h9 l9 a9 p9 in
    let r10 = read_of_pair h10 l10 a10 p10 in
    let r11 = read_of_pair h11 l11 a11 p11 in
    let r12 = read_of_pair h12 l12 a12 p12 in
    let r13 = read_of_pair h13 l13 a13 p13 in
    let r14 = read_of_pair h14 l14 a14 p14 in
    let r15 = read_of_pair h15 l15 a15 p15 in
    let digits : list_all is_hex_digit
    (h0 ∷ l0 ∷ h1 ∷ l1 ∷ h2 ∷ l2 ∷ h3 ∷ l3 ∷ h4 ∷ l4 ∷ h5 ∷ l5 ∷ h6 ∷ l6 ∷ h7 ∷ l7 ∷ h8 ∷ l8 ∷ h9 ∷ l9 ∷ h10 ∷ l10
    ∷ h11 ∷ l11 ∷ h12 ∷ l12 ∷ h13 ∷ l13 ∷ h14 ∷ l14 ∷ h15 ∷ l15 ∷ []) ≡ true =
    all_are (h0 ∷ l0 ∷ h1 ∷ l1 ∷ h2 ∷ l2 ∷ h3 ∷ l3 ∷ h4 ∷ l4 ∷ h5 ∷ l5 ∷ h6 ∷ l6 ∷ h7 ∷ l7 ∷ h8 ∷ l8 ∷ h9 ∷ l9
    ∷ h10 ∷ l10 ∷ h11 ∷ l11 ∷ h12 ∷ l12 ∷ h13 ∷ l13 ∷ h14 ∷ l14 ∷ h15 ∷ l15 ∷ []) (
      r0.high_digit,
      (
        r0.low_digit,
        (
          r1.high_digit,
          (
            r1.low_digit,
            (
              r2.high_digit,
              (
                r2.low_digit,
                (
                  r3.high_digit,
                  (
                    r3.low_digit,
                    (
                      r4.high_digit,
                      (
                        r4.low_digit,
                        (
                          r5.high_digit,
                          (
                            r5.low_digit,
                            (
                              r6.high_digit,
                              (
                                r6.low_digit,
                                (
                                  r7.high_digit,
                                  (
                                    r7.low_digit,
                                    (
                                      r8.high_digit,
                                      (
                                        r8.low_digit,
                                        (
                                          r9.high_digit,
                                          (
                                            r9.low_digit,
                                            (
                                              r10.high_digit,
                                              (
                                                r10.low_digit,
                                                (
                                                  r11.high_digit,
                                                  (
                                                    r11.low_digit,
                                                    (
                                                      r12.high_digit,
                                                      (
                                                        r12.low_digit,
                                                        (
                                                          r13.high_digit,
                                                          (r13.low_digit, (r14.high_digit, (r14.low_digit, (r15.high_digit, (r15.low_digit, tt))))),
                                                        ),
                                                      ),
                                                    ),
                                                  ),
                                                ),
                                              ),
                                            ),
                                          ),
                                        ),
                                      ),
                                    ),
                                  ),
                                ),
                              ),
                            ),
                          ),
                        ),
                      ),
                    ),
                  ),
                ),
              ),
            ),
          ),
        ),
      ),
    ) in
    let v0 : value_of h0 * 16 + value_of l0 ≡ a3 = r0.value in
    let v1 : value_of h1 * 16 + value_of l1 ≡ a2 = r1.value in
    let v2 : value_of h2 * 16 + value_of l2 ≡ a1 = r2.value in
    let v3 : value_of h3 * 16 + value_of l3 ≡ a0 = r3.value in
    let v4 : value_of h4 * 16 + value_of l4 ≡ a5 = r4.value in
    let v5 : value_of h5 * 16 + value_of l5 ≡ a4 = r5.value in
    let v6 : value_of h6 * 16 + value_of l6 ≡ a7 = r6.value in
    let v7 : value_of h7 * 16 + value_of l7 ≡ a6 = r7.value in
    let v8 : value_of h8 * 16 + value_of l8 ≡ a8 = r8.value in
    let v9 : value_of h9 * 16 + value_of l9 ≡ a9 = r9.value in
    let v10 : value_of h10 * 16 + value_of l10 ≡ a10 = r10.value in
    let v11 : value_of h11 * 16 + value_of l11 ≡ a11 = r11.value in
    let v12 : value_of h12 * 16 + value_of l12 ≡ a12 = r12.value in
    let v13 : value_of h13 * 16 + value_of l13 ≡ a13 = r13.value in
    let v14 : value_of h14 * 16 + value_of l14 ≡ a14 = r14.value in
    let v15 : value_of h15 * 16 + value_of l15 ≡ a15 = r15.value in
    let bytes : by_index 16 (byte_of_digits
    (h0 ∷ l0 ∷ h1 ∷ l1 ∷ h2 ∷ l2 ∷ h3 ∷ l3 ∷ h4 ∷ l4 ∷ h5 ∷ l5 ∷ h6 ∷ l6 ∷ h7 ∷ l7 ∷ h8 ∷ l8 ∷ h9 ∷ l9 ∷ h10 ∷ l10
    ∷ h11 ∷ l11 ∷ h12 ∷ l12 ∷ h13 ∷ l13 ∷ h14 ∷ l14 ∷ h15 ∷ l15 ∷ [])) ≡ swap_fields
    (a0 ∷ a1 ∷ a2 ∷ a3 ∷ a4 ∷ a5 ∷ a6 ∷ a7 ∷ a8 ∷ a9 ∷ a10 ∷ a11 ∷ a12 ∷ a13 ∷ a14 ∷ a15 ∷ []) = cc in
    hyphenated_is (h0 ∷ l0 ∷ h1 ∷ l1 ∷ h2 ∷ l2 ∷ h3 ∷ l3 ∷ 45 ∷ h4 ∷ l4 ∷ h5 ∷ l5 ∷ 45 ∷ h6 ∷ l6 ∷ h7 ∷ l7 ∷ 45 ∷ h8
    ∷ l8 ∷ h9 ∷ l9 ∷ 45 ∷ h10 ∷ l10 ∷ h11 ∷ l11 ∷ h12 ∷ l12 ∷ h13 ∷ l13 ∷ h14 ∷ l14 ∷ h15 ∷ l15 ∷ [])
    (swap_fields (a0 ∷ a1 ∷ a2 ∷ a3 ∷ a4 ∷ a5 ∷ a6 ∷ a7 ∷ a8 ∷ a9 ∷ a10 ∷ a11 ∷ a12 ∷ a13 ∷ a14 ∷ a15 ∷ [])) refl
    refl (simple_is (h0 ∷ l0 ∷ h1 ∷ l1 ∷ h2 ∷ l2 ∷ h3 ∷ l3 ∷ h4 ∷ l4 ∷ h5 ∷ l5 ∷ h6 ∷ l6 ∷ h7 ∷ l7 ∷ h8 ∷ l8 ∷ h9
    ∷ l9 ∷ h10 ∷ l10 ∷ h11 ∷ l11 ∷ h12 ∷ l12 ∷ h13 ∷ l13 ∷ h14 ∷ l14 ∷ h15 ∷ l15 ∷ [])
    (swap_fields (a0 ∷ a1 ∷ a2 ∷ a3 ∷ a4 ∷ a5 ∷ a6 ∷ a7 ∷ a8 ∷ a9 ∷ a10 ∷ a11 ∷ a12 ∷ a13 ∷ a14 ∷ a15 ∷ [])) refl
    digits bytes)

-- a text of data begins with the two digits of its first byte
hex_cells : (P : List ℕ → Type 0) (byte : ℕ) (bytes text : List ℕ)
    → ((high low : ℕ) (rest : List ℕ) → IsPair high low byte → IsHexData rest bytes → P (high ∷ low ∷ rest)) → IsHexData text (byte ∷ bytes) → P text
hex_cells P byte bytes [] more read = absurd read
hex_cells P byte bytes (_ ∷ []) more read = absurd read
hex_cells P byte bytes (high ∷ low ∷ rest) more read = more high low rest read.0 read.1

hex_end : (P : List ℕ → Type 0) (text : List ℕ) → P [] → IsHexData text [] → P text
hex_end P [] p read = p
hex_end P (_ ∷ []) p read = absurd read
hex_end P (_ ∷ _ ∷ _) p read = absurd read

-- as many texts as lists of bytes
group_cells : (P : List (List ℕ) → Type 0) (bytes : List ℕ) (others groups : List (List ℕ))
    → ((text : List ℕ) (texts : List (List ℕ)) → IsHexData text bytes → Each IsHexData texts others →
    P (text ∷ texts)) → Each IsHexData groups (bytes ∷ others) → P groups
group_cells P bytes others [] more read = absurd read
group_cells P bytes others (text ∷ texts) more read = more text texts read.0 read.1

group_end : (P : List (List ℕ) → Type 0) (groups : List (List ℕ)) → P [] → Each IsHexData groups [] → P groups
group_end P [] p read = p
group_end P (_ ∷ _) p read = absurd read

cells_again : (a0 a1 a2 a3 a4 a5 a6 a7 a8 a9 a10 a11 a12 a13 a14 a15 : ℕ) (groups : List (List ℕ)) →
    Each IsHexData groups (guid_groups
    (a0 ∷ a1 ∷ a2 ∷ a3 ∷ a4 ∷ a5 ∷ a6 ∷ a7 ∷ a8 ∷ a9 ∷ a10 ∷ a11 ∷ a12 ∷ a13 ∷ a14 ∷ a15 ∷ [])) →
    parsed (join_with_byte hyphen groups) ≡ Some
    (swap_fields (a0 ∷ a1 ∷ a2 ∷ a3 ∷ a4 ∷ a5 ∷ a6 ∷ a7 ∷ a8 ∷ a9 ∷ a10 ∷ a11 ∷ a12 ∷ a13 ∷ a14 ∷ a15 ∷ []))
cells_again a0 a1 a2 a3 a4 a5 a6 a7 a8 a9 a10 a11 a12 a13 a14 a15 groups read =
    group_cells (λ gs. parsed (join_with_byte hyphen (gs)) ≡ Some
    (swap_fields (a0 ∷ a1 ∷ a2 ∷ a3 ∷ a4 ∷ a5 ∷ a6 ∷ a7 ∷ a8 ∷ a9 ∷ a10 ∷ a11 ∷ a12 ∷ a13 ∷ a14 ∷ a15 ∷ [])))
    (a3 ∷ a2 ∷ a1 ∷ a0 ∷ []) ((a5 ∷ a4 ∷ []) ∷ (a7 ∷ a6 ∷ []) ∷ (a8 ∷ a9 ∷ [])
    ∷ (a10 ∷ a11 ∷ a12 ∷ a13 ∷ a14 ∷ a15 ∷ []) ∷ []) groups
    (λ t0 r1 d0 e1. group_cells (λ gs. parsed (join_with_byte hyphen (t0 ∷ gs)) ≡ Some
    (swap_fields (a0 ∷ a1 ∷ a2 ∷ a3 ∷ a4 ∷ a5 ∷ a6 ∷ a7 ∷ a8 ∷ a9 ∷ a10 ∷ a11 ∷ a12 ∷ a13 ∷ a14 ∷ a15 ∷ [])))
    (a5 ∷ a4 ∷ []) ((a7 ∷ a6 ∷ []) ∷ (a8 ∷ a9 ∷ []) ∷ (a10 ∷ a11 ∷ a12 ∷ a13 ∷ a14 ∷ a15 ∷ []) ∷ []) r1
    (λ t1 r2 d1 e2. group_cells (λ gs. parsed (join_with_byte hyphen (t0 ∷ t1 ∷ gs)) ≡ Some
    (swap_fields (a0 ∷ a1 ∷ a2 ∷ a3 ∷ a4 ∷ a5 ∷ a6 ∷ a7 ∷ a8 ∷ a9 ∷ a10 ∷ a11 ∷ a12 ∷ a13 ∷ a14 ∷ a15 ∷ [])))
    (a7 ∷ a6 ∷ []) ((a8 ∷ a9 ∷ []) ∷ (a10 ∷ a11 ∷ a12 ∷ a13 ∷ a14 ∷ a15 ∷ []) ∷ []) r2
    (λ t2 r3 d2 e3. group_cells (λ gs. parsed (join_with_byte hyphen (t0 ∷ t1 ∷ t2 ∷ gs)) ≡ Some
    (swap_fields (a0 ∷ a1 ∷ a2 ∷ a3 ∷ a4 ∷ a5 ∷ a6 ∷ a7 ∷ a8 ∷ a9 ∷ a10 ∷ a11 ∷ a12 ∷ a13 ∷ a14 ∷ a15 ∷ [])))
    (a8 ∷ a9 ∷ []) ((a10 ∷ a11 ∷ a12 ∷ a13 ∷ a14 ∷ a15 ∷ []) ∷ []) r3
    (λ t3 r4 d3 e4. group_cells (λ gs. parsed (join_with_byte hyphen (t0 ∷ t1 ∷ t2 ∷ t3 ∷ gs)) ≡ Some
    (swap_fields (a0 ∷ a1 ∷ a2 ∷ a3 ∷ a4 ∷ a5 ∷ a6 ∷ a7 ∷ a8 ∷ a9 ∷ a10 ∷ a11 ∷ a12 ∷ a13 ∷ a14 ∷ a15 ∷ [])))
    (a10 ∷ a11 ∷ a12 ∷ a13 ∷ a14 ∷ a15 ∷ []) ([]) r4
    (λ t4 r5 d4 e5. group_end (λ gs. parsed (join_with_byte hyphen (t0 ∷ t1 ∷ t2 ∷ t3 ∷ t4 ∷ gs)) ≡ Some
    (swap_fields (a0 ∷ a1 ∷ a2 ∷ a3 ∷ a4 ∷ a5 ∷ a6 ∷ a7 ∷ a8 ∷ a9 ∷ a10 ∷ a11 ∷ a12 ∷ a13 ∷ a14 ∷ a15 ∷ []))) r5
    (hex_cells (λ y. parsed (join_with_byte hyphen ((y) ∷ t1 ∷ t2 ∷ t3 ∷ t4 ∷ [])) ≡ Some
    (swap_fields (a0 ∷ a1 ∷ a2 ∷ a3 ∷ a4 ∷ a5 ∷ a6 ∷ a7 ∷ a8 ∷ a9 ∷ a10 ∷ a11 ∷ a12 ∷ a13 ∷ a14 ∷ a15 ∷ []))) a3
    (a2 ∷ a1 ∷ a0 ∷ []) t0 (λ h0 l0 x1 p0 q1. hex_cells
    (λ y. parsed (join_with_byte hyphen ((h0 ∷ l0 ∷ y) ∷ t1 ∷ t2 ∷ t3 ∷ t4 ∷ [])) ≡ Some
    (swap_fields (a0 ∷ a1 ∷ a2 ∷ a3 ∷ a4 ∷ a5 ∷ a6 ∷ a7 ∷ a8 ∷ a9 ∷ a10 ∷ a11 ∷ a12 ∷ a13 ∷ a14 ∷ a15 ∷ []))) a2
    (a1 ∷ a0 ∷ []) x1 (λ h1 l1 x2 p1 q2. hex_cells
    (λ y. parsed (join_with_byte hyphen ((h0 ∷ l0 ∷ h1 ∷ l1 ∷ y) ∷ t1 ∷ t2 ∷ t3 ∷ t4 ∷ [])) ≡ Some
    (swap_fields (a0 ∷ a1 ∷ a2 ∷ a3 ∷ a4 ∷ a5 ∷ a6 ∷ a7 ∷ a8 ∷ a9 ∷ a10 ∷ a11 ∷ a12 ∷ a13 ∷ a14 ∷ a15 ∷ []))) a1
    (a0 ∷ []) x2 (λ h2 l2 x3 p2 q3. hex_cells
    (λ y. parsed (join_with_byte hyphen ((h0 ∷ l0 ∷ h1 ∷ l1 ∷ h2 ∷ l2 ∷ y) ∷ t1 ∷ t2 ∷ t3 ∷ t4 ∷ [])) ≡ Some
    (swap_fields (a0 ∷ a1 ∷ a2 ∷ a3 ∷ a4 ∷ a5 ∷ a6 ∷ a7 ∷ a8 ∷ a9 ∷ a10 ∷ a11 ∷ a12 ∷ a13 ∷ a14 ∷ a15 ∷ []))) a0
    ([]) x3 (λ h3 l3 x4 p3 q4. hex_end
    (λ y. parsed (join_with_byte hyphen ((h0 ∷ l0 ∷ h1 ∷ l1 ∷ h2 ∷ l2 ∷ h3 ∷ l3 ∷ y) ∷ t1 ∷ t2 ∷ t3 ∷ t4 ∷ []))
    ≡ Some (swap_fields (a0 ∷ a1 ∷ a2 ∷ a3 ∷ a4 ∷ a5 ∷ a6 ∷ a7 ∷ a8 ∷ a9 ∷ a10 ∷ a11 ∷ a12 ∷ a13 ∷ a14 ∷ a15
    ∷ []))) x4 (hex_cells (λ y. parsed
    (join_with_byte hyphen ((h0 ∷ l0 ∷ h1 ∷ l1 ∷ h2 ∷ l2 ∷ h3 ∷ l3 ∷ []) ∷ (y) ∷ t2 ∷ t3 ∷ t4 ∷ [])) ≡ Some
    (swap_fields (a0 ∷ a1 ∷ a2 ∷ a3 ∷ a4 ∷ a5 ∷ a6 ∷ a7 ∷ a8 ∷ a9 ∷ a10 ∷ a11 ∷ a12 ∷ a13 ∷ a14 ∷ a15 ∷ []))) a5
    (a4 ∷ []) t1 (λ h4 l4 x5 p4 q5. hex_cells
    (λ y. parsed (join_with_byte hyphen
    ((h0 ∷ l0 ∷ h1 ∷ l1 ∷ h2 ∷ l2 ∷ h3 ∷ l3 ∷ []) ∷ (h4 ∷ l4 ∷ y) ∷ t2 ∷ t3 ∷ t4 ∷ [])) ≡ Some
    (swap_fields (a0 ∷ a1 ∷ a2 ∷ a3 ∷ a4 ∷ a5 ∷ a6 ∷ a7 ∷ a8 ∷ a9 ∷ a10 ∷ a11 ∷ a12 ∷ a13 ∷ a14 ∷ a15 ∷ []))) a4
    ([]) x5 (λ h5 l5 x6 p5 q6. hex_end
    (λ y. parsed (join_with_byte hyphen
    ((h0 ∷ l0 ∷ h1 ∷ l1 ∷ h2 ∷ l2 ∷ h3 ∷ l3 ∷ []) ∷ (h4 ∷ l4 ∷ h5 ∷ l5 ∷ y) ∷ t2 ∷ t3 ∷ t4 ∷ [])) ≡ Some
    (swap_fields (a0 ∷ a1 ∷ a2 ∷ a3 ∷ a4 ∷ a5 ∷ a6 ∷ a7 ∷ a8 ∷ a9 ∷ a10 ∷ a11 ∷ a12 ∷ a13 ∷ a14 ∷ a15 ∷ []))) x6
    (hex_cells (λ y. parsed (join_with_byte hyphen
    ((h0 ∷ l0 ∷ h1 ∷ l1 ∷ h2 ∷ l2 ∷ h3 ∷ l3 ∷ []) ∷ (h4 ∷ l4 ∷ h5 ∷ l5 ∷ []) ∷ (y) ∷ t3 ∷ t4 ∷ [])) ≡ Some
    (swap_fields (a0 ∷ a1 ∷ a2 ∷ a3 ∷ a4 ∷ a5 ∷ a6 ∷ a7 ∷ a8 ∷ a9 ∷ a10 ∷ a11 ∷ a12 ∷ a13 ∷ a14 ∷ a15 ∷ []))) a7
    (a6 ∷ []) t2 (λ h6 l6 x7 p6 q7. hex_cells
    (λ y. parsed (join_with_byte hyphen
    ((h0 ∷ l0 ∷ h1 ∷ l1 ∷ h2 ∷ l2 ∷ h3 ∷ l3 ∷ []) ∷ (h4 ∷ l4 ∷ h5 ∷ l5 ∷ []) ∷ (h6 ∷ l6 ∷ y) ∷ t3 ∷ t4 ∷ []))
    ≡ Some (swap_fields (a0 ∷ a1 ∷ a2 ∷ a3 ∷ a4 ∷ a5 ∷ a6 ∷ a7 ∷ a8 ∷ a9 ∷ a10 ∷ a11 ∷ a12 ∷ a13 ∷ a14 ∷ a15
    ∷ []))) a6 ([]) x7 (λ h7 l7 x8 p7 q8. hex_end
    (λ y. parsed (join_with_byte hyphen
    ((h0 ∷ l0 ∷ h1 ∷ l1 ∷ h2 ∷ l2 ∷ h3 ∷ l3 ∷ []) ∷ (h4 ∷ l4 ∷ h5 ∷ l5 ∷ []) ∷ (h6 ∷ l6 ∷ h7 ∷ l7 ∷ y) ∷ t3 ∷ t4
    ∷ [])) ≡ Some (swap_fields (a0 ∷ a1 ∷ a2 ∷ a3 ∷ a4 ∷ a5 ∷ a6 ∷ a7 ∷ a8 ∷ a9 ∷ a10 ∷ a11 ∷ a12 ∷ a13 ∷ a14
    ∷ a15 ∷ []))) x8 (hex_cells (λ y. parsed
    (join_with_byte hyphen ((h0 ∷ l0 ∷ h1 ∷ l1 ∷ h2 ∷ l2 ∷ h3 ∷ l3 ∷ []) ∷ (h4 ∷ l4 ∷ h5 ∷ l5 ∷ [])
    ∷ (h6 ∷ l6 ∷ h7 ∷ l7 ∷ []) ∷ (y) ∷ t4 ∷ [])) ≡ Some
    (swap_fields (a0 ∷ a1 ∷ a2 ∷ a3 ∷ a4 ∷ a5 ∷ a6 ∷ a7 ∷ a8 ∷ a9 ∷ a10 ∷ a11 ∷ a12 ∷ a13 ∷ a14 ∷ a15 ∷ []))) a8
    (a9 ∷ []) t3 (λ h8 l8 x9 p8 q9. hex_cells
    (λ y. parsed (join_with_byte hyphen
    ((h0 ∷ l0 ∷ h1 ∷ l1 ∷ h2 ∷ l2 ∷ h3 ∷ l3 ∷ []) ∷ (h4 ∷ l4 ∷ h5 ∷ l5 ∷ []) ∷ (h6 ∷ l6 ∷ h7 ∷ l7 ∷ [])
    ∷ (h8 ∷ l8 ∷ y) ∷ t4 ∷ [])) ≡ Some
    (swap_fields (a0 ∷ a1 ∷ a2 ∷ a3 ∷ a4 ∷ a5 ∷ a6 ∷ a7 ∷ a8 ∷ a9 ∷ a10 ∷ a11 ∷ a12 ∷ a13 ∷ a14 ∷ a15 ∷ []))) a9
    ([]) x9 (λ h9 l9 x10 p9 q10. hex_end
    (λ y. parsed (join_with_byte hyphen
    ((h0 ∷ l0 ∷ h1 ∷ l1 ∷ h2 ∷ l2 ∷ h3 ∷ l3 ∷ []) ∷ (h4 ∷ l4 ∷ h5 ∷ l5 ∷ []) ∷ (h6 ∷ l6 ∷ h7 ∷ l7 ∷ [])
    ∷ (h8 ∷ l8 ∷ h9 ∷ l9 ∷ y) ∷ t4 ∷ [])) ≡ Some
    (swap_fields (a0 ∷ a1 ∷ a2 ∷ a3 ∷ a4 ∷ a5 ∷ a6 ∷ a7 ∷ a8 ∷ a9 ∷ a10 ∷ a11 ∷ a12 ∷ a13 ∷ a14 ∷ a15 ∷ []))) x10
    (hex_cells (λ y. parsed (join_with_byte hyphen
    ((h0 ∷ l0 ∷ h1 ∷ l1 ∷ h2 ∷ l2 ∷ h3 ∷ l3 ∷ []) ∷ (h4 ∷ l4 ∷ h5 ∷ l5 ∷ []) ∷ (h6 ∷ l6 ∷ h7 ∷ l7 ∷ [])
    ∷ (h8 ∷ l8 ∷ h9 ∷ l9 ∷ []) ∷ (y) ∷ [])) ≡ Some
    (swap_fields (a0 ∷ a1 ∷ a2 ∷ a3 ∷ a4 ∷ a5 ∷ a6 ∷ a7 ∷ a8 ∷ a9 ∷ a10 ∷ a11 ∷ a12 ∷ a13 ∷ a14 ∷ a15 ∷ []))) a10
    (a11 ∷ a12 ∷ a13 ∷ a14 ∷ a15 ∷ []) t4
    (λ h10 l10 x11 p10 q11. hex_cells
    (λ y. parsed (join_with_byte hyphen
    ((h0 ∷ l0 ∷ h1 ∷ l1 ∷ h2 ∷ l2 ∷ h3 ∷ l3 ∷ []) ∷ (h4 ∷ l4 ∷ h5 ∷ l5 ∷ []) ∷ (h6 ∷ l6 ∷ h7 ∷ l7 ∷ [])
    ∷ (h8 ∷ l8 ∷ h9 ∷ l9 ∷ []) ∷ (h10 ∷ l10 ∷ y) ∷ [])) ≡ Some
    (swap_fields (a0 ∷ a1 ∷ a2 ∷ a3 ∷ a4 ∷ a5 ∷ a6 ∷ a7 ∷ a8 ∷ a9 ∷ a10 ∷ a11 ∷ a12 ∷ a13 ∷ a14 ∷ a15 ∷ []))) a11
    (a12 ∷ a13 ∷ a14 ∷ a15 ∷ []) x11
    (λ h11 l11 x12 p11 q12. hex_cells
    (λ y. parsed (join_with_byte hyphen
    ((h0 ∷ l0 ∷ h1 ∷ l1 ∷ h2 ∷ l2 ∷ h3 ∷ l3 ∷ []) ∷ (h4 ∷ l4 ∷ h5 ∷ l5 ∷ []) ∷ (h6 ∷ l6 ∷ h7 ∷ l7 ∷ [])
    ∷ (h8 ∷ l8 ∷ h9 ∷ l9 ∷ []) ∷ (h10 ∷ l10 ∷ h11 ∷ l11 ∷ y) ∷ [])) ≡ Some
    (swap_fields (a0 ∷ a1 ∷ a2 ∷ a3 ∷ a4 ∷ a5 ∷ a6 ∷ a7 ∷ a8 ∷ a9 ∷ a10 ∷ a11 ∷ a12 ∷ a13 ∷ a14 ∷ a15 ∷ []))) a12
    (a13 ∷ a14 ∷ a15 ∷ []) x12 (λ h12 l12 x13 p12 q13. hex_cells
    (λ y. parsed (join_with_byte hyphen
    ((h0 ∷ l0 ∷ h1 ∷ l1 ∷ h2 ∷ l2 ∷ h3 ∷ l3 ∷ []) ∷ (h4 ∷ l4 ∷ h5 ∷ l5 ∷ []) ∷ (h6 ∷ l6 ∷ h7 ∷ l7 ∷ [])
    ∷ (h8 ∷ l8 ∷ h9 ∷ l9 ∷ []) ∷ (h10 ∷ l10 ∷ h11 ∷ l11 ∷ h12 ∷ l12 ∷ y) ∷ [])) ≡ Some
    (swap_fields (a0 ∷ a1 ∷ a2 ∷ a3 ∷ a4 ∷ a5 ∷ a6 ∷ a7 ∷ a8 ∷ a9 ∷ a10 ∷ a11 ∷ a12 ∷ a13 ∷ a14 ∷ a15 ∷ []))) a13
    (a14 ∷ a15 ∷ []) x13 (λ h13 l13 x14 p13 q14. hex_cells
    (λ y. parsed (join_with_byte hyphen
    ((h0 ∷ l0 ∷ h1 ∷ l1 ∷ h2 ∷ l2 ∷ h3 ∷ l3 ∷ []) ∷ (h4 ∷ l4 ∷ h5 ∷ l5 ∷ []) ∷ (h6 ∷ l6 ∷ h7 ∷ l7 ∷ [])
    ∷ (h8 ∷ l8 ∷ h9 ∷ l9 ∷ []) ∷ (h10 ∷ l10 ∷ h11 ∷ l11 ∷ h12 ∷ l12 ∷ h13 ∷ l13 ∷ y) ∷ [])) ≡ Some
    (swap_fields (a0 ∷ a1 ∷ a2 ∷ a3 ∷ a4 ∷ a5 ∷ a6 ∷ a7 ∷ a8 ∷ a9 ∷ a10 ∷ a11 ∷ a12 ∷ a13 ∷ a14 ∷ a15 ∷ []))) a14
    (a15 ∷ []) x14 (λ h14 l14 x15 p14 q15. hex_cells
    (λ y. parsed (join_with_byte hyphen
    ((h0 ∷ l0 ∷ h1 ∷ l1 ∷ h2 ∷ l2 ∷ h3 ∷ l3 ∷ []) ∷ (h4 ∷ l4 ∷ h5 ∷ l5 ∷ []) ∷ (h6 ∷ l6 ∷ h7 ∷ l7 ∷ [])
    ∷ (h8 ∷ l8 ∷ h9 ∷ l9 ∷ []) ∷ (h10 ∷ l10 ∷ h11 ∷ l11 ∷ h12 ∷ l12 ∷ h13 ∷ l13 ∷ h14 ∷ l14 ∷ y) ∷ [])) ≡ Some
    (swap_fields (a0 ∷ a1 ∷ a2 ∷ a3 ∷ a4 ∷ a5 ∷ a6 ∷ a7 ∷ a8 ∷ a9 ∷ a10 ∷ a11 ∷ a12 ∷ a13 ∷ a14 ∷ a15 ∷ []))) a15
    ([]) x15 (λ h15 l15 x16 p15 q16. hex_end
    (λ y. parsed (join_with_byte hyphen
    ((h0 ∷ l0 ∷ h1 ∷ l1 ∷ h2 ∷ l2 ∷ h3 ∷ l3 ∷ []) ∷ (h4 ∷ l4 ∷ h5 ∷ l5 ∷ []) ∷ (h6 ∷ l6 ∷ h7 ∷ l7 ∷ [])
    ∷ (h8 ∷ l8 ∷ h9 ∷ l9 ∷ []) ∷ (h10 ∷ l10 ∷ h11 ∷ l11 ∷ h12 ∷ l12 ∷ h13 ∷ l13 ∷ h14 ∷ l14 ∷ h15 ∷ l15 ∷ y)
    ∷ [])) ≡ Some (swap_fields (a0 ∷ a1 ∷ a2 ∷ a3 ∷ a4 ∷ a5 ∷ a6 ∷ a7 ∷ a8 ∷ a9 ∷ a10 ∷ a11 ∷ a12 ∷ a13 ∷ a14
    ∷ a15 ∷ []))) x16 (cells_parsed h0 l0 h1 l1 h2 l2 h3 l3 h4 l4 h5 l5 h6 l6 h7 l7 h8 l8 h9 l9 h10 l10 h11 l11
    h12 l12 h13 l13 h14 l14 h15 l15 a0 a1 a2 a3 a4 a5 a6 a7 a8 a9 a10 a11 a12 a13 a14 a15 p0 p1 p2 p3 p4 p5 p6 p7
    p8 p9 p10 p11 p12 p13 p14 p15) q16) q15) q14) q13) q12) q11) d4) q10) q9) d3) q8) q7) d2) q6) q5) d1) q4) q3)
    q2) q1) d0) e5) e4) e3) e2) e1) read

-- what is read as a GUID is what the crate reads
pub guid_again : (text guid : List ℕ) → IsGuid text guid → parsed text ≡ Some (swap_fields guid)
guid_again text guid is =
    ap parsed is.joined
    ∙ sixteen (λ xs. (groups : List (List ℕ)) → Each IsHexData groups (guid_groups xs) →
    parsed (join_with_byte hyphen groups) ≡ Some (swap_fields xs)) cells_again guid is.len is.groups is.read

chosen : (b : Bool) (x : Option (List ℕ)) (y : List ℕ) → (if b then x else None) ≡ Some y → (b ≡ true) × (x ≡ Some y)
chosen true x y e = (refl, e)
chosen false x y e = cc

is_some_of : (x y : List ℕ) → Some x ≡ Some y → x ≡ y
is_some_of x y e = cc

all_of : (cs : List ℕ) → list_all is_hex_digit cs ≡ true → AllByRecursion (λ c. is_hex_digit c ≡ true) cs
all_of [] h = tt
all_of (c ∷ cs) h = let both = and_parts (is_hex_digit c) (list_all is_hex_digit cs) h in (both.0, all_of cs both.1)

-- thirty-six characters with hyphens at their places and digits at the others
record HasDigits (s : List ℕ) : Type 0 where
  marks : has_hyphens s ≡ true
  all : list_all is_hex_digit (digits_of s) ≡ true

digits_found : (s u : List ℕ) → length s ≡ 36 → parsed s ≡ Some u → HasDigits s × (u ≡ by_index 16 (byte_of_digits (digits_of s)))
digits_found s u len e =
    let inner : (if has_hyphens s then parsed_simple (digits_of s) else None) ≡ Some u = rw len at e in
    let outer = chosen (has_hyphens s) (parsed_simple (digits_of s)) u inner in
    let simple = chosen (eqb (length (digits_of s)) 32 && list_all is_hex_digit (digits_of s))
    (Some (by_index 16 (byte_of_digits (digits_of s)))) u outer.1 in (
      record {
        marks = outer.0;
        all = (and_parts (eqb (length (digits_of s)) 32) (list_all is_hex_digit (digits_of s)) simple.0).1;
      },
      sym (is_some_of _ _ simple.1),
    )

marks_are : (s : List ℕ) → has_hyphens s ≡ true
    → (slice_index s 8 ≡ hyphen) × (slice_index s 13 ≡ hyphen) × (slice_index s 18 ≡ hyphen) × (slice_index s 23 ≡ hyphen)
marks_are s h = (grind (arith, nat_tests), grind (arith, nat_tests), grind (arith, nat_tests), grind (arith, nat_tests))

cells_of : (s : List ℕ) → length s ≡ 36 → s ≡ slice_index s 0 ∷ slice_index s 1 ∷ slice_index s 2 ∷ slice_index s 3
    ∷ slice_index s 4 ∷ slice_index s 5 ∷ slice_index s 6 ∷ slice_index s 7 ∷ slice_index s 8 ∷ slice_index s 9
    ∷ slice_index s 10 ∷ slice_index s 11 ∷ slice_index s 12 ∷ slice_index s 13 ∷ slice_index s 14 ∷ slice_index s 15
    ∷ slice_index s 16 ∷ slice_index s 17 ∷ slice_index s 18 ∷ slice_index s 19 ∷ slice_index s 20 ∷ slice_index s 21
    ∷ slice_index s 22 ∷ slice_index s 23 ∷ slice_index s 24 ∷ slice_index s 25 ∷ slice_index s 26 ∷ slice_index s 27
    ∷ slice_index s 28 ∷ slice_index s 29 ∷ slice_index s 30 ∷ slice_index s 31 ∷ slice_index s 32 ∷ slice_index s 33
    ∷ slice_index s 34 ∷ slice_index s 35 ∷ []
unfolding by_index
cells_of s len = by_index_same s 36 (λ k. slice_index s k) len (λ k d h. get_or_default s k d 0 (omega arith))

cells_found : (s : List ℕ) → length s ≡ 36 → HasDigits s → IsGuid s (swap_fields (by_index 16 (byte_of_digits (digits_of s))))
unfolding by_index
cells_found s len has =
    let cells = cells_of s len in
    let marks = marks_are s has.marks in
    let all = all_of (digits_of s) has.all in
    record {
      groups = ((slice_index s 0 ∷ slice_index s 1 ∷ slice_index s 2 ∷ slice_index s 3 ∷ slice_index s 4
          ∷ slice_index s 5 ∷ slice_index s 6 ∷ slice_index s 7 ∷ [])
          ∷ (slice_index s 9 ∷ slice_index s 10 ∷ slice_index s 11 ∷ slice_index s 12 ∷ [])
          ∷ (slice_index s 14 ∷ slice_index s 15 ∷ slice_index s 16 ∷ slice_index s 17 ∷ [])
          ∷ (slice_index s 19 ∷ slice_index s 20 ∷ slice_index s 21 ∷ slice_index s 22 ∷ [])
          ∷ (slice_index s 24 ∷ slice_index s 25 ∷ slice_index s 26 ∷ slice_index s 27 ∷ slice_index s 28
          ∷ slice_index s 29 ∷ slice_index s 30 ∷ slice_index s 31 ∷ slice_index s 32 ∷ slice_index s 33
          ∷ slice_index s 34 ∷ slice_index s 35 ∷ []) ∷ []);
      joined = cc;
      read = (
        (
          pair_of_read (slice_index s 0) (slice_index s 1) all.0 all.1.0,
          (
            pair_of_read (slice_index s 2) (slice_index s 3) all.1.1.0 all.1.1.1.0,
            (
              pair_of_read (slice_index s 4) (slice_index s 5) all.1.1.1.1.0 all.1.1.1.1.1.0,
              (pair_of_read (slice_index s 6) (slice_index s 7) all.1.1.1.1.1.1.0 all.1.1.1.1.1.1.1.0, tt),
            ),
          ),
        ),
        (
          (
            pair_of_read (slice_index s 9) (slice_index s 10) all.1.1.1.1.1.1.1.1.0 all.1.1.1.1.1.1.1.1.1.0,
            (
              pair_of_read (slice_index s 11) (slice_index s 12) all.1.1.1.1.1.1.1.1.1.1.0 all.1.1.1.1.1.1.1.1.1.1.1.0,
              tt,
            ),
          ),
          (
            (
              pair_of_read (slice_index s 14) (slice_index s 15) all.1.1.1.1.1.1.1.1.1.1.1.1.0
                  all.1.1.1.1.1.1.1.1.1.1.1.1.1.0,
              (
                pair_of_read (slice_index s 16) (slice_index s 17) all.1.1.1.1.1.1.1.1.1.1.1.1.1.1.0
                    all.1.1.1.1.1.1.1.1.1.1.1.1.1.1.1.0,
                tt,
              ),
            ),
            (
              (
                pair_of_read (slice_index s 19) (slice_index s 20) all.1.1.1.1.1.1.1.1.1.1.1.1.1.1.1.1.0
                    all.1.1.1.1.1.1.1.1.1.1.1.1.1.1.1.1.1.0,
                (
                  pair_of_read (slice_index s 21) (slice_index s 22) all.1.1.1.1.1.1.1.1.1.1.1.1.1.1.1.1.1.1.0
                      all.1.1.1.1.1.1.1.1.1.1.1.1.1.1.1.1.1.1.1.0,
                  tt,
                ),
              ),
              (
                (
                  pair_of_read (slice_index s 24) (slice_index s 25) all.1.1.1.1.1.1.1.1.1.1.1.1.1.1.1.1.1.1.1.1.0
                      all.1.1.1.1.1.1.1.1.1.1.1.1.1.1.1.1.1.1.1.1.1.0,
                  (
                    pair_of_read (slice_index s 26) (slice_index s 27) all.1.1.1.1.1.1.1.1.1.1.1.1.1.1.1.1.1.1.1.1.1.1.0
                        all.1.1.1.1.1.1.1.1.1.1.1.1.1.1.1.1.1.1.1.1.1.1.1.0,
                    (
                      pair_of_read (slice_index s 28) (slice_index s 29) all.1.1.1.1.1.1.1.1.1.1.1.1.1.1.1.1.1.1.1.1.1.1.1.1.0
                          all.1.1.1.1.1.1.1.1.1.1.1.1.1.1.1.1.1.1.1.1.1.1.1.1.1.0,
                      (
                        pair_of_read (slice_index s 30)
                            (slice_index s 31) all.1.1.1.1.1.1.1.1.1.1.1.1.1.1.1.1.1.1.1.1.1.1.1.1.1.1.0
                            all.1.1.1.1.1.1.1.1.1.1.1.1.1.1.1.1.1.1.1.1.1.1.1.1.1.1.1.0,
                        (
                          pair_of_read (slice_index s 32)
                              (slice_index s 33) all.1.1.1.1.1.1.1.1.1.1.1.1.1.1.1.1.1.1.1.1.1.1.1.1.1.1.1.1.0
                              all.1.1.1.1.1.1.1.1.1.1.1.1.1.1.1.1.1.1.1.1.1.1.1.1.1.1.1.1.1.0,
                          (
                            pair_of_read (slice_index s 34)
                                (slice_index s 35) all.1.1.1.1.1.1.1.1.1.1.1.1.1.1.1.1.1.1.1.1.1.1.1.1.1.1.1.1.1.1.0
                                all.1.1.1.1.1.1.1.1.1.1.1.1.1.1.1.1.1.1.1.1.1.1.1.1.1.1.1.1.1.1.1.0,
                            tt,
                          ),
                        ),
                      ),
                    ),
                  ),
                ),
                tt,
              ),
            ),
          ),
        ),
      );
      len = refl;
    }

-- what the crate reads is a GUID
pub guid_found : (s u : List ℕ) → length s ≡ 36 → parsed s ≡ Some u → IsGuid s (swap_fields u)
guid_found s u len e = let found = digits_found s u len e in subst (λ x. IsGuid s (swap_fields x)) (sym found.1) (cells_found s len found.0)

pub hex_length : (text bytes : List ℕ) → IsHexData text bytes → length text ≡ 2 * length bytes
hex_length [] [] h = refl
hex_length [] (_ ∷ _) h = absurd h
hex_length (_ ∷ []) bytes h = absurd h
hex_length (_ ∷ _ ∷ _) [] h = absurd h
hex_length (_ ∷ _ ∷ text) (_ ∷ bytes) h = omega (arith, hex_length text bytes h.1)

cells_length : (a0 a1 a2 a3 a4 a5 a6 a7 a8 a9 a10 a11 a12 a13 a14 a15 : ℕ) (groups : List (List ℕ)) →
    Each IsHexData groups (guid_groups
    (a0 ∷ a1 ∷ a2 ∷ a3 ∷ a4 ∷ a5 ∷ a6 ∷ a7 ∷ a8 ∷ a9 ∷ a10 ∷ a11 ∷ a12 ∷ a13 ∷ a14 ∷ a15 ∷ [])) →
    length (join_with_byte hyphen groups) ≡ 36
cells_length a0 a1 a2 a3 a4 a5 a6 a7 a8 a9 a10 a11 a12 a13 a14 a15 groups read =
    group_cells (λ gs. length (join_with_byte hyphen (gs)) ≡ 36) (a3 ∷ a2 ∷ a1 ∷ a0 ∷ [])
    ((a5 ∷ a4 ∷ []) ∷ (a7 ∷ a6 ∷ []) ∷ (a8 ∷ a9 ∷ []) ∷ (a10 ∷ a11 ∷ a12 ∷ a13 ∷ a14 ∷ a15 ∷ []) ∷ []) groups
    (λ t0 r1 d0 e1. group_cells (λ gs. length (join_with_byte hyphen (t0 ∷ gs)) ≡ 36) (a5 ∷ a4 ∷ [])
    ((a7 ∷ a6 ∷ []) ∷ (a8 ∷ a9 ∷ []) ∷ (a10 ∷ a11 ∷ a12 ∷ a13 ∷ a14 ∷ a15 ∷ []) ∷ []) r1
    (λ t1 r2 d1 e2. group_cells (λ gs. length (join_with_byte hyphen (t0 ∷ t1 ∷ gs)) ≡ 36) (a7 ∷ a6 ∷ [])
    ((a8 ∷ a9 ∷ []) ∷ (a10 ∷ a11 ∷ a12 ∷ a13 ∷ a14 ∷ a15 ∷ []) ∷ []) r2
    (λ t2 r3 d2 e3. group_cells (λ gs. length (join_with_byte hyphen (t0 ∷ t1 ∷ t2 ∷ gs)) ≡ 36) (a8 ∷ a9 ∷ [])
    ((a10 ∷ a11 ∷ a12 ∷ a13 ∷ a14 ∷ a15 ∷ []) ∷ []) r3
    (λ t3 r4 d3 e4. group_cells (λ gs. length (join_with_byte hyphen (t0 ∷ t1 ∷ t2 ∷ t3 ∷ gs)) ≡ 36)
    (a10 ∷ a11 ∷ a12 ∷ a13 ∷ a14 ∷ a15 ∷ []) ([]) r4
    (λ t4 r5 d4 e5. group_end (λ gs. length (join_with_byte hyphen (t0 ∷ t1 ∷ t2 ∷ t3 ∷ t4 ∷ gs)) ≡ 36) r5
    (omega (
      arith,
      length-append {A = ℕ},
      hex_length t0 (a3 ∷ a2 ∷ a1 ∷ a0 ∷ []) d0,
      hex_length t1 (a5 ∷ a4 ∷ []) d1,
      hex_length t2 (a7 ∷ a6 ∷ []) d2,
      hex_length t3 (a8 ∷ a9 ∷ []) d3,
      hex_length t4 (a10 ∷ a11 ∷ a12 ∷ a13 ∷ a14 ∷ a15 ∷ []) d4,
    )) e5) e4) e3) e2) e1) read

pub guid_length : (text guid : List ℕ) → IsGuid text guid → length text ≡ 36
guid_length text guid is =
    ap length is.joined
    ∙ sixteen (λ xs. (groups : List (List ℕ)) → Each IsHexData groups (guid_groups xs) →
    length (join_with_byte hyphen groups) ≡ 36) cells_length guid is.len is.groups is.read

-- the bytes that the crate reads are those of each GUID of the text
pub guid_only : (text u guid : List ℕ) → Some u ≡ parsed text → IsGuid text guid → swap_fields u ≡ guid
guid_only text u guid e is =
    let same = is_some_of u (swap_fields guid) (e ∙ guid_again text guid is) in
    ap swap_fields same ∙ swap_twice guid is.len

none_mapped : (o : Option (List ℕ)) → ((x : List ℕ) → o ≡ Some x → ⊥) → None ≡ option_map swap_fields o
none_mapped None h = refl
none_mapped (Some x) h = absurd (h x refl)

chosen_none : (b : Bool) (o : Option (List ℕ)) → None ≡ o → None ≡ (if b then o else None)
chosen_none true o e = e
chosen_none false o e = refl

-- what the crate doesn't read isn't a GUID
pub guid_none : (text : List ℕ) → ((x : List ℕ) → parsed text ≡ Some x → ⊥) → None ≡ guid_read text
guid_none text h = chosen_none (eqb (length text) 36) (option_map swap_fields (parsed text)) (none_mapped (parsed text) h)
