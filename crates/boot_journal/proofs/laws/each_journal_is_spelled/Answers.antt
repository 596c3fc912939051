-- Its bytes spell it, and fit since names of boot variables are names.
use Rattle.std.proofs.Common.{refl}
use Rattle.uefi_vars.proofs.NameTests.{boot_is_name}
use Rattle.boot_journal.specs.Bytes.{file_bytes}
use Rattle.boot_journal.proofs.JournalFiles.{AreNames, file_fits}
use Rattle.boot_journal.proofs.laws.each_journal_is_spelled.Goals as goal

pub returns : goal.returns
returns c =
    let known = c.boot_names_are_names.ensures in
    let names : AreNames = λ name boot. boot_is_name known.entry known.order known.next known.timeout name boot in
    λ file is. (file_bytes file, (is, refl), file_fits names file is)
