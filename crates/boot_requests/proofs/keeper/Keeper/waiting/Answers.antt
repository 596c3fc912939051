use Rattle.std.proofs.Common.{ℕ, ap, subst, ◌∙◌}
use Rattle.std.specs.FinMap.{len}
use Rattle.boot_requests.specs.Turn.{Plain}
use Rattle.boot_requests.specs.Keeper.{IsPlain}
use Rattle.boot_requests.specs.Slots.{waiting_of}
use Rattle.boot_requests.proofs.Turn.Slots.{are_waiting}
use Rattle.boot_requests.proofs.keeper.Keeper.waiting.Goals as goal

pub returns-clause-len : goal.returns-clause-len
returns-clause-len c =
    c.len.ensures.len ∙ ap (λ (n : ℕ). len (waiting_of n c.self.inside.window)) c.next_number.ensures ∙ ap (λ (k : Plain). len k.waiting) c.self.view_is

pub returns-clause-valid : goal.returns-clause-valid
returns-clause-valid c =
    subst (λ (k : Plain). IsPlain k) c.self.view_is
    (record { state = c.self.invariant.stands.is; waiting = are_waiting c.self.inside.mark.next_number c.self.inside.window c.self.invariant.waits })
