use Rattle.boot_requests.proofs.Variables.PlanEntries.{in_next, in_normal}
use Rattle.boot_requests.proofs.laws.a_plan_holds_what_was_asked_for.Goals as goal

pub returns-clause-next : goal.returns-clause-next
returns-clause-next c = λ m plan choice stored. in_next m choice stored c.entries_have_one_plan.ensures plan

pub returns-clause-normal : goal.returns-clause-normal
returns-clause-normal c = λ m plan choice stored. in_normal m choice stored c.a_plan_has_each_normal_option.ensures plan
