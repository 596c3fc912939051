-- Numbers that stay at the largest one.
use Rattle.std.proofs.Common.{◌≡◌, ◌+◌, ◌*◌, ◌<◌, ◌≤◌, ℕ, List, length, take, get_or, sym, ap, ◌∙◌, ◌⊎◌, inl, inr, arith}
use Rattle.std.specs.Prelude.{min}
use Rattle.std.specs.Char.{digit_value}
use Rattle.std.specs.Str.Parse.{digits_value}
use Rattle.std.proofs.lemmas.Int.Digits.{digits_value_more}
use Rattle.std.proofs.lemmas.Bool.{cases_lt}
use Rattle.std.proofs.Math.Nat.{mul-le-mul_left, mul-le-mul_right, min-eq_left, min-eq_right}

at_or_over : (value base most : ℕ) → 0 < base → (most < value) ⊎ (value ≤ most) → min (min value most * base) most ≡ min (value * base) most
at_or_over value base most some (inr under) = ap (λ (n : ℕ). min (n * base) most) (min-eq_left under)
at_or_over value base most some (inl over) =
    let at_most : most ≤ value = omega (arith, over) in
    let least : most * 1 ≤ most * base = mul-le-mul_left most some in
    let more : most * base ≤ value * base = mul-le-mul_right base at_most in
    let same : min (most * base) most ≡ min (value * base) most = omega (arith, least, more) in
    ap (λ (n : ℕ). min (n * base) most) (min-eq_right at_most) ∙ same

-- what is as large as the largest one stays so
times_min : (value base most : ℕ) → 0 < base → min (min value most * base) most ≡ min (value * base) most
times_min value base most some = at_or_over value base most some (cases_lt most value)

plus_min : (value digit most : ℕ) → min (min value most + digit) most ≡ min (value + digit) most
plus_min value digit most = omega arith

-- one more digit
pub value_step : (base value digit : ℕ) (digits : List ℕ) (i : ℕ) → 0 < base → value ≡ min (digits_value base (take i digits)) 0xFFFFFFFF → i < length digits
    → digit ≡ digit_value (get_or digits i 0) → min (min (value * base) 0xFFFFFFFF + digit) 0xFFFFFFFF
    ≡ min (digits_value base (take (i + 1) digits)) 0xFFFFFFFF
value_step base value digit digits i some so_far under is =
    let v : ℕ = digits_value base (take i digits) in
    ap (λ (n : ℕ). min (min (n * base) 0xFFFFFFFF + digit) 0xFFFFFFFF) so_far
    ∙ ap (λ (n : ℕ). min (n + digit) 0xFFFFFFFF) (times_min v base 0xFFFFFFFF some)
    ∙ plus_min (v * base) digit 0xFFFFFFFF
    ∙ ap (λ (d : ℕ). min (v * base + d) 0xFFFFFFFF) is
    ∙ ap (λ (n : ℕ). min n 0xFFFFFFFF) (sym (digits_value_more base digits i under))
