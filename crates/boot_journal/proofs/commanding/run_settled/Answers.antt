-- The run is over what is read of the settled machine.
use Rattle.std.proofs.Common.{inr, subst}
use Rattle.uefi_vars.specs.Vars.{Variables}
use Rattle.boot_journal.specs.Store.{seen}
use Rattle.boot_journal.proofs.Moments.{weaker}
use Rattle.boot_journal.proofs.commanding.run_settled.Given.{Over}
use Rattle.boot_journal.proofs.commanding.run_settled.Goals.{In-Ok}
use Rattle.boot_journal.proofs.commanding.run_settled.Goals as goal

leads : (g : Over) (c : In-Ok g) → g.R.Run.leads c.args.run (seen (g.M.Machine.store c.args.machine.now)) c.in-Ok.to c.in-Ok.answer
leads g c = subst (λ (v : Variables). g.R.Run.leads c.args.run v c.in-Ok.to c.in-Ok.answer) c.in_ok-vars.ensures c.in-Ok.ensures.done

pub returns-in-Ok-update-clause-done : goal.returns-in-Ok-update-clause-done
returns-in-Ok-update-clause-done g c = (c.in-Ok.to, leads g (goal.at.returns-in-Ok-update-clause-done g c).In-Ok, c.in-Ok-update.ensures.done)

pub returns-in-Ok-update-clause-moves : goal.returns-in-Ok-update-clause-moves
returns-in-Ok-update-clause-moves g c =
    weaker _ _ _ _ (λ s at. (c.in-Ok.to, c.in-Ok.answer, leads g (goal.at.returns-in-Ok-update-clause-moves g c).In-Ok, at)) c.update.ensures.moves

pub returns-in-Ok-clause-moves : goal.returns-in-Ok-clause-moves
returns-in-Ok-clause-moves g c =
    weaker _ _ _ _ (λ s at. (c.in-Ok.to, c.in-Ok.answer, leads g (goal.at.returns-in-Ok-clause-moves g c).In-Ok, at)) c.update.ensures.moves

pub returns-in-Ok-update-clause-left : goal.returns-in-Ok-update-clause-left
returns-in-Ok-update-clause-left g c =
    inr (c.in-Ok.to, c.in-Ok.answer, leads g (goal.at.returns-in-Ok-update-clause-left g c).In-Ok, c.update.ensures.left)

pub returns-in-Ok-clause-left : goal.returns-in-Ok-clause-left
returns-in-Ok-clause-left g c =
    inr (c.in-Ok.to, c.in-Ok.answer, leads g (goal.at.returns-in-Ok-clause-left g c).In-Ok, c.update.ensures.left)
