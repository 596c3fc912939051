use Rattle.boot_history.proofs.FileNames.{one_name}
use Rattle.boot_history.proofs.laws.a_number_has_one_name.Goals as goal

pub returns : goal.returns
returns c = one_name
