use Rattle.std.proofs.Common.{refl}
use Rattle.uefi_text.proofs.Means.Texts.{guid_one}
use Rattle.uefi_text.proofs.laws.a_text_is_one_guid.Goals as goal

pub returns : goal.returns
returns c = λ text g h first second. guid_one text text g h refl first second
