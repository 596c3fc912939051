use Rattle.boot_requests.proofs.Variables.Images.{one_state}
use Rattle.boot_requests.proofs.laws.variables_have_one_state.Goals as goal

pub returns : goal.returns
returns c = one_state
