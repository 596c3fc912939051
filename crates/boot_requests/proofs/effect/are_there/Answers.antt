use Rattle.std.proofs.Common.{◌<◌, length, sym, ◌∙◌, arith}
use Rattle.std.proofs.lemmas.Bool.{and_from}
use Rattle.std.proofs.lemmas.List.Folds.{list_all_more, list_all_at}
use Rattle.std.proofs.lemmas.List.{take_all}
use Rattle.boot_requests.specs.Apply.{is_there}
use Rattle.boot_requests.proofs.effect.are_there.Goals as goal

pub returns-then-not-is_there : goal.returns-then-not-is_there
returns-then-not-is_there c = λ m h.
    let within : c.loop-number.number-index < length c.args.numbers.now = omega arith in
    sym (list_all_at (is_there m) c.args.numbers.now c.loop-number.number-index 0 within (sym (c.is_there.ensures m h) ∙ c.if-not-is_there.true))

pub loop-number-preserved : goal.loop-number-preserved
loop-number-preserved c = λ m h.
    let within : c.loop-number.number-index < length c.args.numbers.now = omega arith in
    list_all_more (is_there m) c.args.numbers.now c.loop-number.number-index 0 within
    ∙ and_from _ _ (c.loop-number.invariant m h) (sym (c.is_there.ensures m h) ∙ c.if-not-is_there.false)

pub returns : goal.returns
returns c = λ m h.
    sym (rw (take_all c.loop-number.number-index c.args.numbers.now (omega arith)) at (c.loop-number.invariant m h))
