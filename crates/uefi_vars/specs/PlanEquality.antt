-- What `==` computes of plans.
use Rattle.std.specs.Prelude.{Bool, ◌==◌}
use Rattle.std.specs.Ordering.{on, eq_of_both}
use Rattle.std.specs.Option.{option_eq as optional_eq}
use Rattle.std.specs.Cmp.Lexicographic.{pointwise}
use Rattle.uefi_option.specs.Equality.{option_eq}
use Rattle.uefi_vars.specs.declared.boot_plan.Choice.{Choice}
use Rattle.uefi_vars.specs.Plan.{PlanParts}

abbrev pub choice_eq : Choice → Choice → Bool
choice_eq = eq_of_both (on (λ c. c.number) ◌==◌) (on (λ c. c.option) option_eq)

abbrev pub plan_eq : PlanParts → PlanParts → Bool
plan_eq = eq_of_both (on (λ p. p.next) (optional_eq choice_eq)) (on (λ p. p.normal) (pointwise choice_eq))
