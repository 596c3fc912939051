use Rattle.std.proofs.Common.{ℕ, Option, sym, ap, ◌∙◌}
use Rattle.boot_requests.specs.State.{State}
use Rattle.boot_requests.specs.StateOf.{next_in}
use Rattle.boot_requests.specs.Run.{is_next_entry}
use Rattle.boot_requests.proofs.Variables.Edits.{two_bytes}
use Rattle.boot_requests.proofs.Variables.StateOf.{state_is}
use Rattle.boot_requests.proofs.edit.names_next.Goals as goal

pub returns-in-Some : goal.returns-in-Some
returns-in-Some c = λ m h.
    let next = ap (λ (s : State). s.boot_next) (state_is m _ h) ∙ ap next_in (sym c.in-Some.ensures) in
    c.is_number.ensures (two_bytes m.boot_next c.in-Some.bytes.now (c.in-Some.ensures ∙ h.image.next))
    ∙ ap (λ (o : Option ℕ). is_next_entry o c.args.number) (sym next)

pub returns-in-None : goal.returns-in-None
returns-in-None c = λ m h.
    let next = ap (λ (s : State). s.boot_next) (state_is m _ h) ∙ ap next_in (sym c.in-None.ensures) in
    ap (λ (o : Option ℕ). is_next_entry o c.args.number) (sym next)
