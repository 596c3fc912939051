use Rattle.std.proofs.Common.{◌≡◌, Err, subst}
use Rattle.uefi_path.specs.declared.fault.PathFault.{PathFault}
use Rattle.bootkeep_c.specs.declared.failure.Failure.{Failure}
use Rattle.bootkeep_c.specs.Refusals.{path_failure, Tells}
use Rattle.bootkeep_c.proofs.path.bootkeep_path_check.Goals as goal

pub returns-in-Ok-clause-fault : goal.returns-in-Ok-clause-fault
returns-in-Ok-clause-fault c = λ fault first. let e = c.in-Ok.ensures.only_fault fault first in absurd cc

pub returns-in-Err-clause-fault : goal.returns-in-Err-clause-fault
returns-in-Err-clause-fault c = λ fault first.
    let told : Err c.in-Err.fault ≡ Err fault = c.in-Err.ensures.only_fault fault first in
    let same : c.in-Err.fault ≡ fault = cc in
    subst (λ (f : PathFault). Tells (path_failure f) c.tell.result c.args.refusal.now c.tell.new.refusal) same
    (subst (λ (f : Failure). Tells f c.tell.result c.args.refusal.now c.tell.new.refusal) c.from.ensures c.tell.ensures)
