use Rattle.uefi_text.proofs.Means.Paths.{stuck_is_no_path}
use Rattle.uefi_text.proofs.laws.a_stuck_text_stands_for_no_path.Goals as goal

pub returns : goal.returns
returns c = λ text place path stuck is. stuck_is_no_path text place path stuck is
