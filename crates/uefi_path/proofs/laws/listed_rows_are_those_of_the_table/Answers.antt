use Rattle.uefi_path.proofs.Inverse.{typed_from_listed, listed_from_typed}
use Rattle.uefi_path.proofs.laws.listed_rows_are_those_of_the_table.Goals as goal

pub returns : goal.returns
returns c = λ r is. (typed_from_listed r is, λ typed. listed_from_typed r typed.0 typed.1 typed.2 typed.3)
