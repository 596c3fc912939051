use Rattle.std.proofs.Common.{arith}
use Rattle.uefi_vars.proofs.Bytes.{recursion_from_bytes}
use Rattle.boot_requests.proofs.bytes.each_byte.Goals as goal

pub returns-clause-valid : goal.returns-clause-valid
returns-clause-valid c = recursion_from_bytes c.args.bytes.now (λ i. omega (arith, c.type_inv.bytes i))
