use Rattle.std.proofs.Common.{◌≡◌, ◌+◌, ◌*◌, ◌<◌, ℕ, List, length, take, get_or, sym, ap, ◌∙◌, arith}
use Rattle.std.specs.Char.{digit_value}
use Rattle.std.specs.Str.Parse.{digits_value}
use Rattle.std.proofs.lemmas.Int.Digits.{digits_value_more}
use Rattle.std.proofs.lemmas.Str.Parse.{digits_value-take-le}
use Rattle.uefi_names.proofs.spelled.value_of.Goals as goal

-- one more digit
value_step : (base value digit : ℕ) (digits : List ℕ) (i : ℕ) → value ≡ digits_value base (take i digits) → i < length digits
    → digit ≡ digit_value (get_or digits i 0) → value * base + digit ≡ digits_value base (take (i + 1) digits)
value_step base value digit digits i so_far under is =
    ap (λ v. v * base + digit) so_far ∙ ap (λ d. digits_value base (take i digits) * base + d) is ∙ sym (digits_value_more base digits i under)

pub loop-digit-preserved : goal.loop-digit-preserved
loop-digit-preserved c =
    c.in-Some.ensures.some
    ∙ value_step c.args.base c.loop-digit.value c.digit_of.result c.args.digits.now c.loop-digit.digit-index c.loop-digit.invariant c.loop-digit-test.true c.digit_of.ensures

pub returns-in-None-clause-none : goal.returns-in-None-clause-none
returns-in-None-clause-none c =
    let step = value_step c.args.base c.loop-digit.value c.digit_of.result c.args.digits.now c.loop-digit.digit-index c.loop-digit.invariant c.loop-digit-test.true c.digit_of.ensures in
    let least = digits_value-take-le c.args.base c.args.digits.now (c.loop-digit.digit-index + 1) c.requires in
    omega (arith, step, least, c.in-None.ensures.none)
