use Rattle.std.proofs.Common.{Err, ap, sym, ◌∙◌}
use Rattle.uefi_path.specs.declared.fault.NameFault.{NameFault}
use Rattle.uefi_path.specs.declared.fault.NameFault.TheVariants.{ZeroUnit}
use Rattle.uefi_path.proofs.Names.{same_refusal}
use Rattle.uefi_path.proofs.file.FileNode.new.Goals as goal

pub returns-in-Err-clause-zero_unit : goal.returns-in-Err-clause-zero_unit
returns-in-Err-clause-zero_unit c = λ at. (
  λ e. (c.check_name.ensures.zero_unit at).0 (c.in-Err.is ∙ ap (λ (fault : NameFault). Err fault) (same_refusal c.in-Err.fault (ZeroUnit at) e)),
  λ some. ap (λ (fault : NameFault). Err fault) (same_refusal c.in-Err.fault (ZeroUnit at) (sym c.in-Err.is ∙ (c.check_name.ensures.zero_unit at).1 some)),
)
