use Rattle.bootkeep_c.proofs.Failures.{not_a_line, stream_failed}
use Rattle.bootkeep_c.proofs.run.read_events.Goals as goal

pub stream_failure-requires : goal.stream_failure-requires
stream_failure-requires c = not_a_line c.args.stream.now c.in-Err.fault c.in-Err.ensures.fault

pub returns-in-Err-clause-fault : goal.returns-in-Err-clause-fault
returns-in-Err-clause-fault c = stream_failed c.args.stream.now c.in-Err.fault c.stream_failure.result c.in-Err.ensures.fault c.stream_failure.ensures
