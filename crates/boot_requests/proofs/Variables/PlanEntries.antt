-- A plan holds an option that is stored.
use Rattle.std.proofs.Common.{◌≡◌, ℕ, List, Option, Some, refl, sym, ap, subst}
use Rattle.std.specs.Prelude.{Contains}
use Rattle.std.specs.FinMap.{get}
use Rattle.uefi_option.specs.Attributes.{IsNormal}
use Rattle.uefi_vars.specs.declared.boot_plan.Choice.{Choice}
use Rattle.uefi_vars.specs.Plan.{PlanParts, plan_parts, HasOption, IsNextChoice, IsNormalChoice, IsPlan}
use Rattle.boot_requests.specs.State.{State}
use Rattle.boot_requests.specs.Apply.{HasPlanOf}
use Rattle.boot_requests.specs.Keeper.{IsStored}

-- entries have one plan
abbrev pub OnePlan : Type 0
OnePlan = (entries : ℕ → Option (List ℕ)) (order : List ℕ) (next : Option ℕ) (p q : PlanParts) →
    IsPlan entries order next p → IsPlan entries order next q → p ≡ q

-- a plan has each normal option of the order
abbrev pub HasEachNormal : Type 0
HasEachNormal = (entries : ℕ → Option (List ℕ)) (order : List ℕ) (next : Option ℕ) (plan : PlanParts) (choice : Choice) →
    IsPlan entries order next plan → Contains order choice.number → IsNormalChoice entries choice.number choice → Contains plan.normal choice

module _ (m : State) (choice : Choice) (stored : IsStored (Some choice.option) (get m.entries choice.number)) where
  option_there : HasOption (get m.entries) choice.number choice.option
  option_there = record { bytes = stored.0; stored = stored.1; spelled = stored.2 }

  pub in_next : OnePlan → (plan : PlanParts) → HasPlanOf m plan → m.boot_next ≡ Some choice.number → plan.next ≡ Some choice
  in_next one plan has names =
      let first : IsNextChoice (get m.entries) m.boot_next (Some choice) =
      subst (λ (next : Option ℕ). IsNextChoice (get m.entries) next (Some choice)) (sym names) (refl, option_there) in
      ap (λ (p : PlanParts). p.next)
      (one (get m.entries) m.order m.boot_next plan (plan_parts (Some choice) plan.normal) has (record { first = first; others = has.others }))

  pub in_normal : HasEachNormal → (plan : PlanParts) → HasPlanOf m plan → Contains m.order choice.number → IsNormal choice.option.attributes →
      Contains plan.normal choice
  in_normal each plan has among normal = each (get m.entries) m.order m.boot_next plan choice has among ((refl, option_there), normal)
