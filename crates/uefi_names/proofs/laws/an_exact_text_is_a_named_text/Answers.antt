use Rattle.uefi_names.proofs.Exact.{exact_path}
use Rattle.uefi_names.proofs.laws.an_exact_text_is_a_named_text.Goals as goal

pub returns : goal.returns
returns c = λ table text path is. exact_path table text path is
