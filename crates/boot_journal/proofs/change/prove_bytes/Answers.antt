-- Each item of a slice of bytes is a byte.
use Rattle.std.proofs.Common.{arith}
use Rattle.uefi_vars.proofs.Bytes.{recursion_from_bytes}
use Rattle.boot_journal.proofs.change.prove_bytes.Goals as goal

pub returns : goal.returns
returns c = recursion_from_bytes c.args.bytes.now (λ i. omega (arith, c.type_inv.bytes i))
