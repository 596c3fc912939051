use Rattle.std.proofs.lemmas.Result.{err_from_is_err_and}
use Rattle.efibootmgr_words.proofs.Orders.{read_more, read_bad}
use Rattle.efibootmgr_words.proofs.values.order_value.Goals as goal

pub returns-in_err-number : goal.returns-in_err-number
returns-in_err-number c =
    let p = err_from_is_err_and c.from_residual.result c.from_residual.ensures.1 in
    rw (p.1, p.2)
    (read_bad c.args.text.now c.cut.result.0.now c.loop-rest.numbers.items c.loop-rest.rest c.cut.result.1 c.in-Some.left _ c.loop-rest.invariant c.in-Some.is
    c.cut.ensures.front c.cut.ensures.rest c.in_err-number.ensures)

pub loop-rest-preserved : goal.loop-rest-preserved
loop-rest-preserved c =
    read_more c.args.text.now c.cut.result.0.now c.loop-rest.numbers.items c.push.new.self.items c.loop-rest.rest c.cut.result.1 c.in-Some.left
    c.in_ok-number.number c.loop-rest.invariant c.in-Some.is c.cut.ensures.front c.cut.ensures.rest c.in_ok-number.ensures c.in_ok-push.ensures.items
