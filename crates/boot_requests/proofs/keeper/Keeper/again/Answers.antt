use Rattle.std.proofs.Common.{refl, ap, ◌∙◌}
use Rattle.boot_requests.specs.Answer.{kept_outcome, again}
use Rattle.boot_requests.specs.Turn.{Plain}
use Rattle.boot_requests.specs.StateOf.{state_of}
use Rattle.boot_requests.proofs.keeper.Keeper.again.Goals as goal

pub returns-in-Some : goal.returns-in-Some
returns-in-Some c =
    ap again (c.in-Some.ensures (state_of c.self.inside.vars c.self.inside.mark) refl)
    ∙ ap (λ (k : Plain). again (kept_outcome k.state c.args.number)) c.self.view_is

pub returns-in-None : goal.returns-in-None
returns-in-None c =
    ap again (c.in-None.ensures (state_of c.self.inside.vars c.self.inside.mark) refl)
    ∙ ap (λ (k : Plain). again (kept_outcome k.state c.args.number)) c.self.view_is
