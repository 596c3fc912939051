use Rattle.std.proofs.Common.{sym, ap, subst, ◌∙◌}
use Rattle.std.proofs.lemmas.Result.{err_from_is_err_and}
use Rattle.uefi_vars.specs.Vars.{Variables}
use Rattle.boot_journal.specs.Attributes.{data_of}
use Rattle.boot_edits.specs.Edit.{IsEdited}
use Rattle.boot_edits.specs.Run.{IsRunFault}
use Rattle.boot_edits.proofs.Running.{refused_weaker}
use Rattle.boot_edits.proofs.run.EditRun.make.Goals as goal

pub returns-clause-edited : goal.returns-clause-edited
returns-clause-edited c =
    let edit = c.args.self.now.edit in
    record {
      set = c.in_ok-to.to;
      edited = subst (λ (set : Variables). IsEdited set edit c.in_ok-to.to c.in_ok-to.answer) c.in_ok-from.ensures.set c.in_ok-to.ensures.done;
      is = c.in_ok-kept.ensures.kept;
    }

pub returns-clause-to : goal.returns-clause-to
returns-clause-to c =
    sym (c.attributes_and_data_are_what_is_kept.ensures.set c.args.vars.now c.in_ok-to.to) ∙ ap data_of (sym c.in_ok-kept.ensures.kept)

pub returns-in_err-kept-clause-refused : goal.returns-in_err-kept-clause-refused
returns-in_err-kept-clause-refused c =
    let edit = c.args.self.now.edit in
    let p = err_from_is_err_and c.from_residual-in_err-kept.result c.from_residual-in_err-kept.ensures.1 in
    rw (p.1, p.2)
    (refused_weaker c.in_err-kept.field-0.0 _ _ (λ reason is. subst (IsRunFault edit c.args.vars.now) (sym is.0) (record {
      set = c.in_ok-to.to;
      answer = c.in_ok-to.answer;
      edited = subst (λ (set : Variables). IsEdited set edit c.in_ok-to.to c.in_ok-to.answer) c.in_ok-from.ensures.set c.in_ok-to.ensures.done;
      long = is.1;
    })) c.in_err-kept.ensures.refused)
