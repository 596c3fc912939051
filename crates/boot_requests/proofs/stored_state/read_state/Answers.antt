use Rattle.std.proofs.Common.{sym, ◌∙◌, ⊎_elim}
use Rattle.std.proofs.lemmas.Bool.{false≢true}
use Rattle.boot_requests.proofs.Variables.StateOf.{state_opens}
use Rattle.boot_requests.proofs.stored_state.read_state.Goals as goal

pub returns-in-Ok-Some-clause-found : goal.returns-in-Ok-Some-clause-found
returns-in-Ok-Some-clause-found c =
    ⊎_elim (λ has.
    state_opens c.args.vars.now _ has.0 _ c.boot_next.ensures.valid has.1 c.in-Ok.ensures.found (rw c.in-Ok-Some.field-0-is at c.in-Ok-Some.ensures))
    (λ bad. absurd (false≢true (sym c.if-has_bad_order.false ∙ c.has_bad_order.ensures.1 bad)))
    (c.variables_have_an_order_or_a_bad_one.ensures c.args.vars.now c.boot_next.ensures.valid)
