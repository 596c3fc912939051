use Rattle.boot_requests.proofs.Variables.Images.{one_image}
use Rattle.boot_requests.proofs.laws.a_state_has_one_image.Goals as goal

pub returns : goal.returns
returns c = one_image
