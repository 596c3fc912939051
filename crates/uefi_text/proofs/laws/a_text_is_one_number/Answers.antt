use Rattle.std.proofs.Common.{refl}
use Rattle.uefi_text.proofs.Means.Texts.{number_one}
use Rattle.uefi_text.proofs.laws.a_text_is_one_number.Goals as goal

pub returns : goal.returns
returns c = λ text m n first second. number_one text text m n refl first second
