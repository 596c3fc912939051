use Rattle.boot_requests.proofs.Turn.Answers.{decided, some_reply, before_read}
use Rattle.boot_requests.proofs.WholeRuns.Valid.{state_valid}
use Rattle.boot_requests.specs.Run.{before_taken}
use Rattle.boot_requests.proofs.laws.each_event_has_a_reply.Goals as goal

pub returns : goal.returns
returns c = λ start run seen valid read.
    some_reply c.entries_have_a_plan.ensures (decided _ c.requests_compare_as_values.ensures) start run
    (state_valid c.each_option_is_spelled.ensures start run valid read)
    (state_valid c.each_option_is_spelled.ensures start (before_taken run) valid (before_read run read)) seen
