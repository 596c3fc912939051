-- A list of the values of digits.
use Rattle.std.proofs.Common.{◌≡◌, ◌<◌, ◌+◌, ◌==◌, ◌&&◌, ℕ, zero, suc, Bool, true, List, [], ◌∷◌, length, get_or, add-zero, zero-add, ap, ◌∙◌, arith}
use Rattle.std.specs.Char.{digit_value}
use Rattle.std.proofs.lemmas.Bool.{and_parts, eqb-true}

-- from this byte on the list has the value of each byte
abbrev pub has_values : ℕ → List ℕ → Bool
has_values byte [] = true
has_values byte (value ∷ values) = (value == digit_value byte) && has_values (suc byte) values

pub values_at : (byte : ℕ) (values : List ℕ) → has_values byte values ≡ true → (i : ℕ) → i < length values → get_or values i 0 ≡ digit_value (byte + i)
values_at byte [] is i under = absurd (omega (arith, under))
values_at byte (value ∷ values) is zero under =
    let both = and_parts (value == digit_value byte) (has_values (suc byte) values) is in
    rw add-zero (eqb-true value (digit_value byte) both.0)
values_at byte (value ∷ values) is (suc i) under =
    let both = and_parts (value == digit_value byte) (has_values (suc byte) values) is in
    let next : byte + suc i ≡ suc byte + i = omega arith in
    rw next (values_at (suc byte) values both.1 i (omega arith))

pub value_at : (values : List ℕ) → has_values 0 values ≡ true → (i : ℕ) → i < length values → get_or values i 0 ≡ digit_value i
value_at values is i under = values_at 0 values is i under ∙ ap digit_value (zero-add i)
