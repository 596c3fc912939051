use Rattle.std.proofs.Common.{ℕ, ◌+◌, ◌<◌, true, List, length, drop, sym, ap, ◌∙◌, arith}
use Rattle.std.proofs.lemmas.List.{at_drop_more, at_drop_all}
use Rattle.boot_edits.specs.Orders.{extended}
use Rattle.boot_edits.proofs.order.each_once.Goals as goal

pub loop-number-preserved : goal.loop-number-preserved
loop-number-preserved c =
    let i = c.loop-number.number-index in
    let numbers = c.args.numbers.now in
    let within : i < length numbers = omega arith in
    let before = c.loop-number.invariant in
    let pushed = c.in_ok-push_new.ensures before.met in
    record {
      met = pushed.1;
      is = ap (λ (o : List ℕ). extended (λ number. true) o (drop (i + 1) numbers)) pushed.0
          ∙ sym (at_drop_more (extended (λ number. true) c.loop-number.order.items) numbers i 0 within) ∙ before.is;
    }

pub returns : goal.returns
returns c =
    sym (at_drop_all (extended (λ number. true) c.loop-number.order.items) c.args.numbers.now c.loop-number.number-index (omega arith))
    ∙ c.loop-number.invariant.is
