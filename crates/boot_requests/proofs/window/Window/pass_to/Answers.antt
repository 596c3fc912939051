use Rattle.std.proofs.Common.{◌+◌, sym, ap, ◌∙◌}
use Rattle.std.specs.FinMap.{remove}
use Rattle.boot_requests.specs.Window.{Requests}
use Rattle.boot_requests.specs.Slots.{waiting_of}
use Rattle.boot_requests.proofs.Turn.Slots.{are_waiting}
use Rattle.boot_requests.proofs.Turn.Fills.{none_waits, all_above, above_more}
use Rattle.boot_requests.proofs.window.Window.pass_to.Goals as goal

pub loop-number-init : goal.loop-number-init
loop-number-init c = λ is.
    let next = c.args.next_number in
    let waiting = waiting_of next c.args.self.now in
    (is, sym (all_above next waiting (none_waits next waiting (are_waiting next c.args.self.now is))))

pub loop-number-preserved : goal.loop-number-preserved
loop-number-preserved c = λ is.
    let number = c.loop-number.number in
    let was = c.loop-number.invariant is in
    let now = c.pass.ensures was.0 in
    (now.0, now.1 ∙ ap (λ (requests : Requests). remove requests (number + 1)) was.1 ∙ above_more number (waiting_of c.args.next_number c.args.self.now))
