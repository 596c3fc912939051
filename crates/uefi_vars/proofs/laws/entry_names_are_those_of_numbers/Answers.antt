use Rattle.uefi_vars.proofs.NameTests.{entry_of_name, name_of_entry}
use Rattle.uefi_vars.proofs.laws.entry_names_are_those_of_numbers.Goals as goal

pub returns : goal.returns
returns c = λ name. (entry_of_name name, λ entry. name_of_entry entry.0 name entry.1 entry.2)
