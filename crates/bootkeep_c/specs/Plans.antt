-- What a boot would try, as the numbers that C is told.
use Rattle.std.specs.Prelude.{ℕ, List, map, Option, Some, None}
use Rattle.uefi_vars.specs.Plan.{PlanParts}

-- what stands for the number of no entry
abbrev pub no_entry : ℕ
no_entry = 0x10000

-- the number, or what stands for none
abbrev pub number_or_none : Option ℕ → ℕ
number_or_none None = no_entry
number_or_none (Some number) = number

-- the number of the option that is tried first
abbrev pub next_number : PlanParts → ℕ
next_number plan = elim plan.next as (λ _. ℕ) [ None ↦ no_entry | Some choice ↦ choice.number ]

-- the numbers of the others, in their order
abbrev pub normal_numbers : PlanParts → List ℕ
normal_numbers plan = map (λ choice. choice.number) plan.normal
