use Rattle.uefi_text.proofs.Means.Printed.{guid_printed_is}
use Rattle.uefi_text.proofs.laws.a_printed_guid_is_its_text.Goals as goal

pub returns : goal.returns
returns c = λ guid are. guid_printed_is guid are
