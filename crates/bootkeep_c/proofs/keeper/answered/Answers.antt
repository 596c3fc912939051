use Rattle.std.proofs.Common.{Some, refl, subst, ◌∙◌}
use Rattle.boot_requests.specs.Turn.{Plain}
use Rattle.bootkeep_c.specs.Steps.{StepsTo}
use Rattle.bootkeep_c.proofs.Stepping.{stays, comes}
use Rattle.bootkeep_c.proofs.keeper.answered.Goals as goal

pub returns-in_default : goal.returns-in_default
returns-in_default c = stays c.args.event.now (Some c.args.keeper.value) c.args.keeper.value c.args.out.now c.args.len.now refl

pub returns : goal.returns
returns c =
    let told = c.in-Ok.ensures in
    let steps = subst (λ (from : Plain). StepsTo from c.args.event.now c.in-Ok.next told.0) c.as_ref.ensures told.1 in
    comes c.args.event.now c.give-status.result c.args.keeper.value c.in-Ok.next c.go_on.new.keeper.value told.0
    c.as_bytes.result.now c.args.out.now c.give-status.new.out
    c.args.len.now c.give-status.new.len steps (c.as_bytes.ensures.value ∙ told.2) c.give-status.ensures c.go_on.ensures.given c.go_on.ensures.otherwise
