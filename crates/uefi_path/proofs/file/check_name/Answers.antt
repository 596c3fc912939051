use Rattle.std.proofs.Common.{arith, sym, ◌∙◌}
use Rattle.uefi_path.proofs.Names.{no_zero}
use Rattle.uefi_path.proofs.file.check_name.Goals as goal

pub returns-clause-ok : goal.returns-clause-ok
returns-clause-ok c = (no_zero c.args.units.now (λ i. omega (arith, c.type_inv.units i)) (sym c.first_zero.ensures ∙ c.in_default.is), omega arith)
