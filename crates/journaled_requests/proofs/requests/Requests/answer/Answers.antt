use Rattle.std.proofs.Common.{sym, ap, subst, ◌∙◌}
use Rattle.uefi_vars.specs.Vars.{Variables}
use Rattle.boot_requests.specs.State.{State}
use Rattle.boot_requests.specs.StoredState.{OpensAs}
use Rattle.boot_journal.specs.declared.machine.CallError.{CallError}
use Rattle.boot_journal.specs.Attributes.{data_of}
use Rattle.boot_journal.specs.Cause.{IfRefused}
use Rattle.journaled_requests.specs.declared.requests.RunFault.{RunFault}
use Rattle.journaled_requests.specs.RunFault.{IsRunFault}
use Rattle.journaled_requests.proofs.Running.{err_then, refused_for, refused_open, refused_with, too_far, answered}
use Rattle.journaled_requests.proofs.requests.Requests.answer.Goals as goal

pub returns-clause-answered : goal.returns-clause-answered
returns-clause-answered c =
    let first = c.in_ok-keeper in
    let last = c.in_ok-keeper-2 in
    let opened = first.ensures.opened in
    let keeps = subst (λ (v : Variables). OpensAs v first.keeper.state) (c.in_ok-copy.ensures.equal ∙ c.in_ok-from.ensures.set) opened.1 in
    answered c.a_start_stands_for_no_events.ensures first.keeper last.keeper c.args.self.now.events.now last.answers.items opened.0 last.ensures.answered
    c.variables_open_as_one_state.ensures c.args.vars.now c.into_vars-to.result c.in_ok-kept.kept keeps c.into_vars-to.ensures.image c.in_ok-kept.ensures.kept

pub returns-clause-to : goal.returns-clause-to
returns-clause-to c =
    sym (c.attributes_and_data_are_what_is_kept.ensures.set c.args.vars.now c.into_vars-to.result) ∙ ap data_of (sym c.in_ok-kept.ensures.kept)

pub returns-clause-first : goal.returns-clause-first
returns-clause-first c = λ m keeps.
    let opened = c.in_ok-keeper.ensures.opened in
    let state = c.in_ok-keeper.keeper.state in
    c.next_number-first.ensures.number
    ∙ ap (λ (s : State). s.next_number) (c.variables_open_as_one_state.ensures state m _ opened.1
    (subst (λ (v : Variables). OpensAs v m) (sym (c.in_ok-copy.ensures.equal ∙ c.in_ok-from.ensures.set)) keeps))

pub returns-in_err-from-clause-refused : goal.returns-in_err-from-clause-refused
returns-in_err-from-clause-refused c =
    let events = c.args.self.now.events.now in
    err_then c.from_residual.result _ (λ error. IfRefused error (IsRunFault events c.args.vars.now)) c.from_residual.ensures.1
    (λ error is. subst (λ (e : CallError RunFault). IfRefused e (IsRunFault events c.args.vars.now)) (sym is)
    (refused_for c.in_err-from.field-0.0 events c.args.vars.now c.in_err-from.ensures.refused))

pub returns-in_err-keeper-clause-refused : goal.returns-in_err-keeper-clause-refused
returns-in_err-keeper-clause-refused c =
    let events = c.args.self.now.events.now in
    err_then c.from_residual-in_err-keeper.result _ (λ error. IfRefused error (IsRunFault events c.args.vars.now)) c.from_residual-in_err-keeper.ensures.1
    (λ error is. subst (λ (e : CallError RunFault). IfRefused e (IsRunFault events c.args.vars.now)) (sym is)
    (refused_open c.in_err-keeper.field-0.0 events c.args.vars.now _ (c.in_ok-copy.ensures.equal ∙ c.in_ok-from.ensures.set) c.in_err-keeper.ensures.refused))

pub returns-in_err-kept-clause-refused : goal.returns-in_err-kept-clause-refused
returns-in_err-kept-clause-refused c =
    let first = c.in_ok-keeper in
    let last = c.in_ok-keeper-2 in
    let opened = first.ensures.opened in
    let events = c.args.self.now.events.now in
    let keeps = subst (λ (v : Variables). OpensAs v first.keeper.state) (c.in_ok-copy.ensures.equal ∙ c.in_ok-from.ensures.set) opened.1 in
    err_then c.from_residual-in_err-kept.result _ (λ error. IfRefused error (IsRunFault events c.args.vars.now)) c.from_residual-in_err-kept.ensures.1
    (λ error is. subst (λ (e : CallError RunFault). IfRefused e (IsRunFault events c.args.vars.now)) (sym is)
    (refused_with c.in_err-kept.field-0.0 events c.args.vars.now c.into_vars-to.result c.in_err-kept.ensures.refused
    (too_far c.a_start_stands_for_no_events.ensures first.keeper last.keeper events last.answers.items opened.0 last.ensures.answered
    c.args.vars.now c.into_vars-to.result keeps c.into_vars-to.ensures.image)))
