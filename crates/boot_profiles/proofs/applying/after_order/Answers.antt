use Rattle.boot_profiles.proofs.Refusals.{next_refused}
use Rattle.boot_profiles.proofs.applying.after_order.Goals as goal

pub returns-in-Err-clause-refused : goal.returns-in-Err-clause-refused
returns-in-Err-clause-refused c =
    next_refused c.args.profile.now c.args.vars.now c.args.between.now c.requires c.in-Err.error c.in-Err.ensures.refused
    c.next_error.result c.next_error.ensures
