use Rattle.uefi_text.proofs.Means.Paths.{stuck_place_one}
use Rattle.uefi_text.proofs.laws.a_text_is_stuck_at_one_place.Goals as goal

pub returns : goal.returns
returns c = λ text a b first second. stuck_place_one text a b first second
