use Rattle.boot_requests.proofs.WholeRuns.Valid.{state_valid}
use Rattle.boot_requests.proofs.laws.a_run_leads_to_a_state.Goals as goal

pub returns : goal.returns
returns c = state_valid c.each_option_is_spelled.ensures
