use Rattle.std.proofs.Common.{None, ap, ◌∙◌, ⊎_elim}
use Rattle.boot_requests.specs.State.{State}
use Rattle.boot_requests.specs.Window.{Requests}
use Rattle.boot_requests.specs.Turn.{plain_start}
use Rattle.boot_requests.specs.StateOf.{state_of, plain_of}
use Rattle.boot_requests.proofs.Variables.Marks.{no_memory}
use Rattle.boot_requests.proofs.keeper.Keeper.open.Goals as goal

pub returns-in-Ok-clause-only : goal.returns-in-Ok-clause-only
returns-in-Ok-clause-only c = λ m h.
    ap (λ (requests : Requests). plain_of (state_of c.read_parts.new.vars c.in-Ok.mark) requests None) c.in-Ok.ensures.waiting
    ∙ ap (λ (s : State). plain_start s) (c.variables_open_as_one_state.ensures _ m _ c.in-Ok.ensures.opened h)

pub returns-in-Ok-clause-only_fault : goal.returns-in-Ok-clause-only_fault
returns-in-Ok-clause-only_fault c = λ fault is. ⊎_elim (λ e. cc) (λ e. cc) (c.in-Ok.ensures.only_fault fault is)

pub returns-in-Err-clause-only : goal.returns-in-Err-clause-only
returns-in-Err-clause-only c = λ m h.
    no_memory c.in-Err.fault (λ other. c.what_opens_has_no_fault.ensures m _ c.in-Err.fault h (c.in-Err.ensures.fault other))
