use Rattle.std.proofs.Common.{ℕ, ◌+◌, ◌<◌, List, length, drop, sym, ap, ◌∙◌, arith}
use Rattle.std.specs.Option.{is_some}
use Rattle.std.proofs.lemmas.Bool.{cond-true, cond-false}
use Rattle.std.proofs.lemmas.List.{at_drop_more, at_drop_all}
use Rattle.boot_requests.proofs.Turn.Steps.{some_of_map}
use Rattle.boot_edits.specs.Orders.{extended}
use Rattle.boot_edits.specs.Parts.{is_stored}
use Rattle.boot_edits.proofs.order.extended.Goals as goal
use Rattle.boot_edits.proofs.order.extended.Goals.{then-is_some+in_ok-push_new, else-is_some}

pub loop-number-preserved : goal.loop-number-preserved
loop-number-preserved c =
    let i = c.loop-number.number-index in
    let others = c.args.others.now in
    let within : i < length others = omega arith in
    let test = is_stored c.args.vars.now in
    let before = c.loop-number.invariant in
    let stored = c.is_some.ensures ∙ sym (some_of_map (λ bytes. bytes.now) c.entry.result) ∙ ap is_some c.entry.ensures.value in
    let step = sym (at_drop_more (extended test c.loop-number.new.items) others i 0 within) ∙ before.is in
    elim c.if-is_some.branch [
      | then-is_some+in_ok-push_new w ↦
          let pushed = w.in_ok-push_new.ensures before.met in
          rw (w.new-is, w.met-is) (record {
            met = pushed.1;
            is = ap (λ (o : List ℕ). extended test o (drop (i + 1) others)) (pushed.0 ∙ sym (cond-true _ _ _ (sym stored ∙ w.if-is_some.true))) ∙ step;
          })
      | else-is_some w ↦
          rw (w.new-is, w.met-is) (record {
            met = before.met;
            is = ap (λ (o : List ℕ). extended test o (drop (i + 1) others)) (sym (cond-false _ _ _ (sym stored ∙ w.if-is_some.false))) ∙ step;
          })
    ]

pub returns : goal.returns
returns c =
    sym (at_drop_all (extended (is_stored c.args.vars.now) c.loop-number.new.items) c.args.others.now c.loop-number.number-index (omega arith))
    ∙ c.loop-number.invariant.is
