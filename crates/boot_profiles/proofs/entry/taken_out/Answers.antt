use Rattle.std.proofs.Common.{rules}
use Rattle.boot_profiles.proofs.Refusals.{some_out_fault}
use Rattle.boot_profiles.proofs.entry.taken_out.Goals as goal

pub returns-in-Err-clause-refused : goal.returns-in-Err-clause-refused
returns-in-Err-clause-refused c memory = some_out_fault c.args.vars.now c.args.numbers.now c.in-Err.fault (search rules) (c.in-Err.ensures.refused memory)
