use Rattle.std.proofs.Common.{inr, refl}
use Rattle.uefi_vars.proofs.Names.{IsUtf8-name}
use Rattle.bootkeep_c.proofs.set.name_text.Goals as goal

pub returns-in-Err : goal.returns-in-Err
returns-in-Err c = inr ((λ is. c.in-Err.ensures.cases.0 (IsUtf8-name c.args.name.now is)), refl)
