use Rattle.std.proofs.Common.{ℕ, ◌+◌, ◌<◌, List, length, drop, sym, ap, ◌∙◌, arith}
use Rattle.std.proofs.lemmas.List.{at_drop_more, at_drop_all}
use Rattle.entry_checks.specs.Numbers.{distinct_from}
use Rattle.entry_checks.proofs.numbers.distinct.Goals as goal

pub loop-number-preserved : goal.loop-number-preserved
loop-number-preserved c =
    let i = c.loop-number.number-index in
    let numbers = c.args.numbers.now in
    let within : i < length numbers = omega arith in
    let before = c.loop-number.invariant in
    let step = sym (at_drop_more (distinct_from c.loop-number.once.items) numbers i 0 within) ∙ before.is in
    let pushed = c.in_ok-push_new.ensures before.met in
    record { met = pushed.1; is = ap (λ (o : List ℕ). distinct_from o (drop (i + 1) numbers)) pushed.0 ∙ step }

pub returns : goal.returns
returns c =
    sym (at_drop_all (distinct_from c.loop-number.once.items) c.args.numbers.now c.loop-number.number-index (omega arith))
    ∙ c.loop-number.invariant.is
