use Rattle.std.proofs.Common.{ℕ, ◌<◌, List, [], ◌∷◌, ◌++◌, length, get_or, sym, ap, ◌∙◌, arith}
use Rattle.boot_edits.proofs.Orders.{left_more, left_same}
use Rattle.boot_edits.proofs.order.without_all.Goals as goal
use Rattle.boot_edits.proofs.order.without_all.Goals.{then-not-contains+in_ok-push, else-not-contains}

pub loop-number-preserved : goal.loop-number-preserved
loop-number-preserved c = λ numbers tells.
    let i = c.loop-number.number-index in
    let order = c.args.order.now in
    let within : i < length order = omega arith in
    let test = sym (tells.tells (get_or order i 0)) ∙ sym c.contains.ensures in
    elim c.if-not-contains.branch [
      | then-not-contains+in_ok-push w ↦
          rw w.others-is (w.in_ok-push.ensures.items ∙ ap (λ (o : List ℕ). o ++ get_or order i 0 ∷ []) (c.loop-number.invariant numbers tells)
          ∙ sym (left_more numbers order i within (test ∙ w.if-not-contains.true)))
      | else-not-contains w ↦ rw w.others-is (c.loop-number.invariant numbers tells ∙ sym (left_same numbers order i within (test ∙ w.if-not-contains.false)))
    ]
