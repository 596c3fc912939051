use Rattle.boot_trials.proofs.Runs.{try_no_trial}
use Rattle.std.proofs.Common.{subst}
use Rattle.uefi_vars.specs.Vars.{Variables}
use Rattle.boot_journal.specs.Cause.{IfRefused}
use Rattle.boot_trials.specs.Run.{IsNoTrial}
use Rattle.boot_trials.proofs.beginning.begin.Goals as goal

pub returns-in-Err-clause-refused : goal.returns-in-Err-clause-refused
returns-in-Err-clause-refused c =
    try_no_trial c.args.run.now.entry c.args.vars.now c.in-Err.error
    (subst (λ (v : Variables). IfRefused c.in-Err.error (IsNoTrial v c.args.run.now.entry)) c.requires c.in-Err.ensures.refused)
