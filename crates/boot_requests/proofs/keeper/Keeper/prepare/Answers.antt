use Rattle.std.proofs.Common.{refl, sym, ap, subst, ◌∙◌}
use Rattle.std.specs.Option.{is_some}
use Rattle.boot_requests.specs.declared.reply.Reply.TheVariants as reply
use Rattle.boot_requests.specs.Apply.{HasPlanOf}
use Rattle.boot_requests.specs.Turn.{Plain}
use Rattle.boot_requests.specs.StateOf.{state_of}
use Rattle.boot_requests.proofs.Turn.Steps.{plan_there, plan_gone}
use Rattle.boot_requests.proofs.keeper.Keeper.prepare.Goals as goal

pub returns-then-is_some-clause-turn : goal.returns-then-is_some-clause-turn
returns-then-is_some-clause-turn c =
    plan_there c.args.self.now.plan _ _ (ap (λ (k : Plain). is_some k.plan) (sym c.self.view_is) ∙ sym c.is_some.ensures ∙ c.if-is_some.true) (refl, refl)

pub returns-clause-turn : goal.returns-clause-turn
returns-clause-turn c =
    let m = state_of c.self.inside.vars c.self.inside.mark in
    let plan = c.in_ok-plan.plan in
    plan_gone c.args.self.now.plan _ _ (ap (λ (k : Plain). is_some k.plan) (sym c.self.view_is) ∙ sym c.is_some.ensures ∙ c.if-is_some.false) (
      plan,
      subst (λ (k : Plain). HasPlanOf k.state plan) c.self.view_is (c.in_ok-plan.ensures m c.self.invariant.stands),
      refl,
      ap reply.Prepared c.choice_count-count.ensures,
    )
