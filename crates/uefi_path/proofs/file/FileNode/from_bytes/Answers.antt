use Rattle.std.proofs.Common.{arith}
use Rattle.uefi_path.proofs.Names.{units_of_name}
use Rattle.uefi_path.proofs.file.FileNode.from_bytes.Goals as goal

pub invariant_of-result : goal.invariant_of-result
invariant_of-result c =
    let name = units_of_name c.args.bytes.now (λ i. omega (arith, c.type_inv.bytes i)) c.requires.name in
    rw c.in_ok-units.ensures (name.valid, omega (arith, name.len, c.requires.len))

pub returns : goal.returns
returns c =
    let name = units_of_name c.args.bytes.now (λ i. omega (arith, c.type_inv.bytes i)) c.requires.name in
    rw c.in_ok-units.ensures name.is
