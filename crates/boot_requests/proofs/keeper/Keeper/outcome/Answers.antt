use Rattle.std.proofs.Common.{refl, ap, ◌∙◌}
use Rattle.boot_requests.specs.Answer.{kept_outcome}
use Rattle.boot_requests.specs.Turn.{Plain}
use Rattle.boot_requests.specs.StateOf.{state_of}
use Rattle.boot_requests.proofs.keeper.Keeper.outcome.Goals as goal

pub returns : goal.returns
returns c =
    c.outcome.ensures (state_of c.self.inside.vars c.self.inside.mark) refl ∙ ap (λ (k : Plain). kept_outcome k.state c.args.number) c.self.view_is
