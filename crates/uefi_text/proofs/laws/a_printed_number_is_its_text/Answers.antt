use Rattle.uefi_text.proofs.Means.Printed.{number_printed}
use Rattle.uefi_text.proofs.laws.a_printed_number_is_its_text.Goals as goal

pub returns : goal.returns
returns c = λ n fits. number_printed n fits
