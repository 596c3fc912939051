use Rattle.boot_requests.proofs.Variables.Images.{one_opening}
use Rattle.boot_requests.proofs.laws.variables_open_as_one_state.Goals as goal

pub returns : goal.returns
returns c = one_opening
