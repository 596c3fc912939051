-- Names of ten digits: what is written of a number, and what is read of a name.
use Rattle.std.proofs.Common.{◌≡◌, ℕ, zero, suc, ◌+◌, ◌-◌, ◌*◌, ◌<◌, ◌≤◌, ◌^◌, ◌&&◌, true, false, List, [], ◌∷◌, ◌++◌, length, replicate, nat_eq, refl, sym, ap, ◌∙◌}
use Rattle.std.proofs.Common.{arith, Bool, if◌then◌else◌, Result, Ok, Some, None}
use Rattle.std.specs.Fmt.{decimal, padded_integral, char_count, format_spec}
use Rattle.std.specs.Result.{result_ok}
use Rattle.std.specs.Char.{is_ascii_digit, digit_value}
use Rattle.std.specs.List.{list_all}
use Rattle.std.specs.Str.{all_ascii_digits}
use Rattle.std.specs.Str.Parse.{digits_value, digits_value_after, ParsesUnsigned}
use Rattle.std.proofs.lemmas.Fmt.{digits_decimal, digits_value-decimal, length-decimal-le}
use Rattle.std.proofs.lemmas.Bool.{and_parts, eqb-true}
use Rattle.std.proofs.lemmas.List.{append-nil}
use Rattle.std.proofs.lemmas.Str.{digit_value_digit}
use Rattle.std.proofs.lemmas.Str.Parse.{IsNumeralModel, numerals_by_value, tells_all_ascii_digits, digits_value_short, parse_gives}
use Rattle.boot_history.specs.FileNames.{is_name, number_named}

abbrev Digits : List ℕ → Type 0
Digits ds = all_ascii_digits ds ≡ true

own : IsNumeralModel Digits (digits_value 10)
own = numerals_by_value Digits tells_all_ascii_digits

-- zeros before digits are digits, and change nothing of what these write
zeros_digits : (n : ℕ) (ds : List ℕ) → Digits ds → Digits (replicate n 48 ++ ds)
zeros_digits zero ds all = all
zeros_digits (suc n) ds all = zeros_digits n ds all

zeros_value : (n : ℕ) (ds : List ℕ) → digits_value 10 (replicate n 48 ++ ds) ≡ digits_value 10 ds
zeros_value zero ds = refl
zeros_value (suc n) ds = zeros_value n ds

zeros_length : (n : ℕ) (ds : List ℕ) → length (replicate n 48 ++ ds) ≡ n + length ds
zeros_length zero ds = omega arith
zeros_length (suc n) ds = omega (arith, zeros_length n ds)

padded_is : (n : ℕ) → padded_integral (format_spec 32 0 4 10 (2 ^ 64 - 1)) false [] (decimal n) ≡ replicate (10 - length (decimal n)) 48 ++ decimal n
unfolding padded_integral char_count
padded_is n =
    let short : 10 - length (decimal n) - 0 - 0 ≡ 10 - length (decimal n) = omega arith in
    λ i. replicate (short i) 48 ++ append-nil (decimal n) i

-- the two words for digits are one
same_digits : (ds : List ℕ) → list_all is_ascii_digit ds ≡ all_ascii_digits ds
same_digits [] = refl
same_digits (d ∷ ds) = ap (λ rest. is_ascii_digit d && rest) (same_digits ds)

-- ten digits are a name, and it writes what they write
ten_digits : (name : List ℕ) → Digits name → length name ≡ 10 → number_named name ≡ Some (digits_value 10 name)
ten_digits name all ten = rw (same_digits name, ten, all) refl

-- what is written of a number
pub named : (n : ℕ) → n < 10 ^ 10 → number_named (padded_integral (format_spec 32 0 4 10 (2 ^ 64 - 1)) false [] (decimal n)) ≡ Some n
named n small =
    let big : n < 2 ^ 64 = omega arith in
    let len : length (decimal n) ≤ 10 = length-decimal-le 10 n (omega arith) small big in
    let zeros = 10 - length (decimal n) in
    let digits = zeros_digits zeros (decimal n) (digits_decimal own n big) in
    let long : length (replicate zeros 48 ++ decimal n) ≡ 10 = omega (arith, zeros_length zeros (decimal n), len) in
    let value = zeros_value zeros (decimal n) ∙ digits_value-decimal own n big in
    ap number_named (padded_is n) ∙ (ten_digits _ digits long ∙ ap Some value)

-- what is read of ten digits
pub read : {E : Type 0} (name : List ℕ) (r : Result ℕ E) → ParsesUnsigned 64 10 name r → is_name name ≡ true → result_ok r ≡ number_named name
read {E = E} name r parses is =
    let parts = and_parts (nat_eq (length name) 10) (list_all is_ascii_digit name) is in
    let ten : length name ≡ 10 = eqb-true (length name) 10 parts.0 in
    let digits : all_ascii_digits name ≡ true = sym (same_digits name) ∙ parts.1 in
    let small : digits_value 10 name < 10 ^ 10 = digits_value_short own name 10 digits (omega arith) in
    let so : r ≡ Ok (digits_value 10 name) = parse_gives own 64 name r parses digits (omega arith) (omega arith) in
    rw (so, is) refl

-- ---- a number has one name

-- digits that are as many, and write one number behind others, are the same behind the same
same_digits_written : (m n : ℕ) (xs ys : List ℕ) → Digits xs → Digits ys → length xs ≡ length ys
    → digits_value_after 10 m xs ≡ digits_value_after 10 n ys → (m ≡ n) × (xs ≡ ys)
same_digits_written m n [] [] xs_are ys_are long same = (same, refl)
same_digits_written m n [] (y ∷ ys) xs_are ys_are long same = absurd (omega (arith, long))
same_digits_written m n (x ∷ xs) [] xs_are ys_are long same = absurd (omega (arith, long))
same_digits_written m n (x ∷ xs) (y ∷ ys) xs_are ys_are long same =
    let at_x = tells_all_ascii_digits.parts x xs xs_are in
    let at_y = tells_all_ascii_digits.parts y ys ys_are in
    let rest = same_digits_written (m * 10 + digit_value x) (n * 10 + digit_value y) xs ys at_x.1 at_y.1 (omega (arith, long)) same in
    let value_x = digit_value_digit x at_x.0 in
    let value_y = digit_value_digit y at_y.0 in
    let numbers : m ≡ n = omega (arith, rest.0, value_x, value_y, at_x.0.0, at_x.0.1, at_y.0.0, at_y.0.1) in
    let first : x ≡ y = omega (arith, rest.0, value_x, value_y, at_x.0.0, at_x.0.1, at_y.0.0, at_y.0.1) in
    let behind : xs ≡ ys = rest.1 in
    (numbers, cc)

-- a name that writes a number is one, and its digits write it
writes : (name : List ℕ) (n : ℕ) (b : Bool) → is_name name ≡ b → (if b then Some (digits_value 10 name) else None) ≡ Some n
    → (is_name name ≡ true) × (digits_value 10 name ≡ n)
writes name n true is some = (is, cc)
writes name n false is some = absurd (cc some)

pub one_name : (a b : List ℕ) (n : ℕ) → number_named a ≡ Some n → number_named b ≡ Some n → a ≡ b
one_name a b n writes_a writes_b =
    let in_a = writes a n (is_name a) refl writes_a in
    let in_b = writes b n (is_name b) refl writes_b in
    let parts_a = and_parts (nat_eq (length a) 10) (list_all is_ascii_digit a) in_a.0 in
    let parts_b = and_parts (nat_eq (length b) 10) (list_all is_ascii_digit b) in_b.0 in
    let long : length a ≡ length b = eqb-true (length a) 10 parts_a.0 ∙ sym (eqb-true (length b) 10 parts_b.0) in
    let same : digits_value 10 a ≡ digits_value 10 b = in_a.1 ∙ sym in_b.1 in
    (same_digits_written 0 0 a b (sym (same_digits a) ∙ parts_a.1) (sym (same_digits b) ∙ parts_b.1) long same).1
