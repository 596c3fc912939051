-- The reader answers what `file_at` gives, which is spelled by the bytes or is their first fault, and nothing else is.
use Rattle.std.proofs.Common.{Ok, Err, arith}
use Rattle.uefi_vars.proofs.Bytes.{recursion_from_bytes}
use Rattle.boot_journal.proofs.Spellings.{file_again, fault_again}
use Rattle.boot_journal.proofs.JournalFiles.{found, faulty, only}
use Rattle.boot_journal.proofs.reader.read_journal.Goals as goal

pub returns-clause-found : goal.returns-clause-found
returns-clause-found c =
    found c.read_whole.result c.args.bytes.now (recursion_from_bytes c.args.bytes.now (λ i. omega (arith, c.type_inv.bytes i))) c.read_whole.ensures.value

pub returns-clause-only : goal.returns-clause-only
returns-clause-only c =
    λ file spells. only c.read_whole.result c.args.bytes.now (Ok file) c.read_whole.ensures.value (file_again c.args.bytes.now file spells)

pub returns-clause-fault : goal.returns-clause-fault
returns-clause-fault c =
    faulty c.read_whole.result c.args.bytes.now (recursion_from_bytes c.args.bytes.now (λ i. omega (arith, c.type_inv.bytes i))) c.read_whole.ensures.value

pub returns-clause-only_fault : goal.returns-clause-only_fault
returns-clause-only_fault c =
    λ fault is. only c.read_whole.result c.args.bytes.now (Err fault) c.read_whole.ensures.value (fault_again c.args.bytes.now fault is)
