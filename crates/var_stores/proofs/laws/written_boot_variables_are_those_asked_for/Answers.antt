use Rattle.uefi_vars.proofs.NameTests.{boot_is_name}
use Rattle.var_stores.proofs.AfterWriting.{boot_as_asked, left_out_stays}
use Rattle.var_stores.proofs.laws.written_boot_variables_are_those_asked_for.Goals as goal

pub returns-clause-asked : goal.returns-clause-asked
returns-clause-asked c = λ file bytes to attributes written name boot asked.
    let names = c.boot_names_are_names.ensures in
    boot_as_asked file bytes to attributes written name (boot_is_name names.entry names.order names.next names.timeout name boot) boot asked

pub returns-clause-left_out : goal.returns-clause-left_out
returns-clause-left_out c = λ file bytes to attributes written name boot r there left none.
    let names = c.boot_names_are_names.ensures in
    left_out_stays file bytes to attributes written name (boot_is_name names.entry names.order names.next names.timeout name boot) r there left none
