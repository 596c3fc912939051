-- What is refused is refused for the fault that the set has.
use Rattle.journaled_requests.proofs.Running.{refused_then}
use Rattle.journaled_requests.proofs.requests.open.Goals as goal

pub returns-in-Err-clause-refused : goal.returns-in-Err-clause-refused
returns-in-Err-clause-refused c = refused_then c.open_error.result c.in-Err.refused.fault c.args.set c.open_error.ensures c.in-Err.ensures.fault
