use Rattle.std.proofs.Common.{ℕ, Err, ap, sym, ◌∙◌, Vec, Global}
use Rattle.uefi_path.specs.declared.fault.NameFault.{NameFault}
use Rattle.uefi_path.specs.declared.fault.NameFault.TheVariants.{ZeroUnit}
use Rattle.uefi_path.specs.declared.file.NameRefused.{NameRefused}
use Rattle.uefi_path.proofs.Names.{no_refusal, same_refusal}
use Rattle.uefi_path.proofs.file.FileNode.from_vec.Goals as goal

abbrev refusal : NameFault → Vec ℕ Global → NameRefused
refusal fault units = record { fault = fault; units = units }

pub returns-in-Ok-clause-zero_unit : goal.returns-in-Ok-clause-zero_unit
returns-in-Ok-clause-zero_unit c = λ at.
    (λ e. no_refusal _ _ e, λ some. no_refusal _ _ (sym c.in-Ok.is ∙ (c.check_name.ensures.zero_unit at).1 (rw c.deref.ensures.value some)))

pub returns-in-Err-clause-zero_unit : goal.returns-in-Err-clause-zero_unit
returns-in-Err-clause-zero_unit c = λ at. (
  λ e. rw (← c.deref.ensures.value)
      ((c.check_name.ensures.zero_unit at).0
      (c.in-Err.is ∙ ap (λ (refused : NameRefused). Err refused.fault) (same_refusal _ _ e))),
  λ some. ap (λ (fault : NameFault). Err (refusal fault c.args.units))
      (same_refusal c.in-Err.fault (ZeroUnit at)
      (sym c.in-Err.is ∙ (c.check_name.ensures.zero_unit at).1 (rw c.deref.ensures.value some))),
)
