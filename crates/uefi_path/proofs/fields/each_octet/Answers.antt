use Rattle.std.proofs.Common.{arith}
use Rattle.uefi_path.proofs.Bytes.{recursion_from_bytes}
use Rattle.uefi_path.proofs.fields.each_octet.Goals as goal

pub returns-clause-valid : goal.returns-clause-valid
returns-clause-valid c = recursion_from_bytes c.args.bytes.now (λ i. omega (arith, c.type_inv.bytes i))
