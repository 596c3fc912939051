use Rattle.std.proofs.Common.{subst}
use Rattle.boot_requests.specs.Turn.{Plain}
use Rattle.boot_requests.specs.Keeper.{IsPlain}
use Rattle.boot_requests.proofs.Turn.Slots.{are_waiting}
use Rattle.boot_requests.proofs.keeper.Keeper.next_number.Goals as goal

pub returns-clause-valid : goal.returns-clause-valid
returns-clause-valid c =
    subst (λ (k : Plain). IsPlain k) c.self.view_is
    (record { state = c.self.invariant.stands.is; waiting = are_waiting c.self.inside.mark.next_number c.self.inside.window c.self.invariant.waits })
