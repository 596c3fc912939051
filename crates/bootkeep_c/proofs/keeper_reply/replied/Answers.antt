use Rattle.std.proofs.Common.{Some, refl, subst, ◌∙◌}
use Rattle.boot_requests.specs.Turn.{Plain}
use Rattle.bootkeep_c.specs.Steps.{StepsTo}
use Rattle.bootkeep_c.proofs.Replying.{stays_unanswered, replies}
use Rattle.bootkeep_c.proofs.keeper_reply.replied.Goals as goal

pub returns-in_default : goal.returns-in_default
returns-in_default c = stays_unanswered c.args.event.now (Some c.args.keeper.value) c.args.keeper.value c.args.numbers.now c.args.len.now c.args.reply.now refl

pub returns : goal.returns
returns c =
    let told = c.in-Ok.ensures in
    let steps = subst (λ (from : Plain). StepsTo from c.args.event.now c.in-Ok.next c.in-Ok.answer) c.as_ref.ensures told.0 in
    replies c.args.event.now c.give-status.result c.args.keeper.value c.in-Ok.next c.go_on.new.keeper.value c.in-Ok.answer
    c.deref.result.now c.args.numbers.now c.give-status.new.out
    c.args.len.now c.give-status.new.len c.args.reply.now c.tell_reply.new.reply steps (c.deref.ensures.value ∙ told.1)
    c.give-status.ensures c.go_on.ensures.given c.go_on.ensures.otherwise
    c.tell_reply.ensures.given c.tell_reply.ensures.otherwise
