-- A name of a boot variable is UTF-8, so what is no UTF-8 is none.
use Rattle.std.proofs.lemmas.Bool.{false_from_ne_true}
use Rattle.uefi_vars.proofs.Names.{IsUtf8-name}
use Rattle.uefi_vars.specs.BootChange.{is_boot_name}
use Rattle.uefi_vars.proofs.NameTests.{boot_is_name}
use Rattle.boot_journal.proofs.reader.boot_name.Goals as goal

pub returns-in-Err-clause-none : goal.returns-in-Err-clause-none
returns-in-Err-clause-none c = λ none.
    let names = c.boot_names_are_names.ensures in
    false_from_ne_true (is_boot_name c.args.bytes.now)
    (λ boot. c.in-Err.ensures.cases.0 (IsUtf8-name c.args.bytes.now (boot_is_name names.entry names.order names.next names.timeout c.args.bytes.now boot)))
