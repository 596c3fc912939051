use Rattle.boot_requests.proofs.WholeRuns.Pendings.{by_hand, after_boot}
use Rattle.boot_requests.proofs.laws.a_plan_is_handed_out_after_its_boot.Goals as goal

pub returns-clause-hand : goal.returns-clause-hand
returns-clause-hand c = λ start run seen plan. by_hand plan start run seen

pub returns-clause-boot : goal.returns-clause-boot
returns-clause-boot c = λ start run seen plan. after_boot plan start run seen
