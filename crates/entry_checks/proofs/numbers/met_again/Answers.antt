use Rattle.std.proofs.Common.{◌≡◌, ℕ, ◌+◌, ◌<◌, false, true, List, [], ◌∷◌, ◌++◌, length, take, drop, get_or, sym, ap, ◌∙◌, arith}
use Rattle.std.proofs.lemmas.Bool.{cond-true, cond-false, not-true, not-false}
use Rattle.std.proofs.lemmas.List.{at_drop_more, at_drop_all, take_more}
use Rattle.entry_checks.specs.Numbers.{is_in, repeated_from}
use Rattle.entry_checks.proofs.numbers.met_again.Goals as goal
use Rattle.entry_checks.proofs.numbers.met_again.Goals.{then-not-new+in_ok-push, else-not-new}

pub loop-number-preserved : goal.loop-number-preserved
loop-number-preserved c =
    let i = c.loop-number.number-index in
    let numbers = c.args.numbers.now in
    let within : i < length numbers = omega arith in
    let number = get_or numbers i 0 in
    let again = c.loop-number.again.items in
    let before = c.loop-number.invariant in
    let met = c.in_ok-new.ensures (take i numbers) before.met in
    let step = sym (at_drop_more (repeated_from (take i numbers) again) numbers i 0 within) ∙ before.is in
    let more = λ (o : List ℕ). repeated_from (take i numbers ++ number ∷ []) o (drop (i + 1) numbers) in
    elim c.if-not-new.branch [
      | then-not-new+in_ok-push w ↦
          let there : is_in (take i numbers) number ≡ true = not-false _ (sym met.0 ∙ w.if-not-new.true) in
          rw (w.again-is, take_more numbers i 0 within) (record {
            met = met.1;
            is = ap more (w.in_ok-push.ensures.items ∙ sym (cond-true _ _ _ there)) ∙ step;
          })
      | else-not-new w ↦
          let new : is_in (take i numbers) number ≡ false = not-true _ (sym met.0 ∙ w.if-not-new.false) in
          rw (w.again-is, take_more numbers i 0 within) (record {
            met = met.1;
            is = ap more (sym (cond-false _ _ _ new)) ∙ step;
          })
    ]

pub returns : goal.returns
returns c =
    let i = c.loop-number.number-index in
    sym (at_drop_all (repeated_from (take i c.args.numbers.now) c.loop-number.again.items) c.args.numbers.now i (omega arith))
    ∙ c.loop-number.invariant.is
