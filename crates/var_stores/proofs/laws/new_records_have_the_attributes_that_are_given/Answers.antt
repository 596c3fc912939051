use Rattle.uefi_vars.proofs.NameTests.{boot_is_name}
use Rattle.var_stores.proofs.AfterWriting.{attributes_as_given}
use Rattle.var_stores.proofs.laws.new_records_have_the_attributes_that_are_given.Goals as goal

pub returns : goal.returns
returns c = λ file bytes to attributes written name value boot put other.
    let names = c.boot_names_are_names.ensures in
    attributes_as_given file bytes to attributes written name (boot_is_name names.entry names.order names.next names.timeout name boot) value boot put other
