-- Why a call on a set is refused: if bytes are a set, or have a fault, there is one failure at most.
use Rattle.std.proofs.Common.{◌≡◌, ◌≢◌, ℕ, List, ◌++◌, length, inl, inr, refl, ap, subst, ◌∙◌, arith, Option, Some, None}
use Rattle.std.specs.Option.{option_map}
use Rattle.uefi_vars.specs.declared.fault.SetFault.{SetFault}
use Rattle.uefi_vars.specs.declared.fault.VarFault.{VarFault}
use Rattle.uefi_vars.specs.declared.fault.VarFault.TheVariants as var
use Rattle.uefi_vars.specs.declared.fault.PutFault.{PutFault}
use Rattle.uefi_vars.specs.declared.fault.PutFault.TheVariants as put
use Rattle.uefi_vars.specs.declared.boot_plan.Choice.{Choice}
use Rattle.uefi_vars.specs.Vars.{Variables}
use Rattle.uefi_vars.specs.Set.{SpellsSet}
use Rattle.uefi_vars.specs.Fault.{IsFirstFault}
use Rattle.uefi_vars.specs.Order.{HasOrder, HasNext, HasBadOrder, HasBadNext}
use Rattle.uefi_vars.specs.Plan.{PlanParts, HasPlan}
use Rattle.uefi_vars.specs.AtRisk.{IsUnnamed, IsUndecodable}
use Rattle.boot_requests.specs.declared.script_fault.ScriptFault.{ScriptFault}
use Rattle.boot_requests.specs.declared.script_fault.ScriptFault.TheVariants as script
use Rattle.boot_requests.specs.EventStream.{IsStreamFault}
use Rattle.uefi_vars.proofs.EntriesAtRisk.{one_list}
use Rattle.uefi_vars.proofs.Sets.{same_set, fault_leaves_none, same_first_fault}
use Rattle.bootkeep_c.specs.declared.failure.Failure.{Failure}
use Rattle.bootkeep_c.specs.declared.failure.Failure.TheVariants as failure
use Rattle.bootkeep_c.specs.Refusals.{set_failure, vars_failure, put_failure, stream_failure}
use Rattle.bootkeep_c.specs.Runs.{IsStreamFailure}
use Rattle.bootkeep_c.specs.Plans.{number_or_none, next_number, normal_numbers}
use Rattle.bootkeep_c.specs.Sets.{IsSetFailure, IsVarsFault, IsPlanFailure, HasPlanNumbers, AreAtRisk, HasAtRisk, IsPut, IsPutFault, IsPutFailure}

-- ---- sets

pub set_failure_is : (set : List ℕ) (fault : SetFault) (failed : Failure) → IsFirstFault set fault → IsSetFailure set failed → failed ≡ set_failure fault
set_failure_is set fault failed first why = why.2 ∙ ap set_failure (same_first_fault set why.0 fault why.1 first)

pub no_set_failure : (set : List ℕ) (vars : Variables) (failed : Failure) → SpellsSet set vars → IsSetFailure set failed → ⊥
no_set_failure set vars failed spelled why = fault_leaves_none set why.0 vars why.1 spelled

-- ---- plans

same_vars_fault : (vars : Variables) (f g : VarFault) → IsVarsFault vars f → IsVarsFault vars g → f ≡ g
same_vars_fault vars var.BadOrder var.BadOrder p q = refl
same_vars_fault vars var.BadOrder var.BadNext p q = absurd (q.0 p)
same_vars_fault vars var.BadNext var.BadOrder p q = absurd (p.0 q)
same_vars_fault vars var.BadNext var.BadNext p q = refl
same_vars_fault vars var.OutOfMemory g p q = absurd p
same_vars_fault vars var.BadOrder var.OutOfMemory p q = absurd q
same_vars_fault vars var.BadNext var.OutOfMemory p q = absurd q

pub plan_failure_is_of_set : (set : List ℕ) (fault : SetFault) (failed : Failure) → IsFirstFault set fault →
    IsPlanFailure set failed → failed ≡ set_failure fault
plan_failure_is_of_set set fault failed first (inl why) = set_failure_is set fault failed first why
plan_failure_is_of_set set fault failed first (inr why) = absurd (fault_leaves_none set fault why.0 first why.2)

pub plan_failure_is : (set : List ℕ) (vars : Variables) (fault : VarFault) (failed : Failure) → SpellsSet set vars →
    IsVarsFault vars fault → IsPlanFailure set failed
    → failed ≡ vars_failure fault
plan_failure_is set vars fault failed spelled is (inl why) = absurd (no_set_failure set vars failed spelled why)
plan_failure_is set vars fault failed spelled is (inr why) =
    let same = same_set set why.0 vars why.2 spelled in
    why.4 ∙ ap vars_failure (same_vars_fault vars why.1 fault (subst (λ (v : Variables). IsVarsFault v why.1) same why.3) is)

pub vars_failed : (set : List ℕ) (vars : Variables) (fault : VarFault) → SpellsSet set vars → (fault ≡ var.BadOrder → HasBadOrder vars)
    → (fault ≡ var.BadNext → (¬ HasBadOrder vars) × HasBadNext vars) → vars_failure fault ≢ failure.Memory → IsPlanFailure set (vars_failure fault)
vars_failed set vars var.BadOrder spelled order next other = inr (vars, var.BadOrder, spelled, order refl, refl)
vars_failed set vars var.BadNext spelled order next other = inr (vars, var.BadNext, spelled, next refl, refl)
vars_failed set vars var.OutOfMemory spelled order next other = absurd (other refl)

no_vars_fault : (vars : Variables) (fault : VarFault) → ¬ HasBadOrder vars → ¬ HasBadNext vars → IsVarsFault vars fault → ⊥
no_vars_fault vars var.BadOrder order next is = order is
no_vars_fault vars var.BadNext order next is = next is.1
no_vars_fault vars var.OutOfMemory order next is = is

-- variables with a good BootOrder and a good BootNext aren't at fault
pub no_vars_failure : (set : List ℕ) (vars : Variables) (failed : Failure) → SpellsSet set vars → ¬ HasBadOrder vars →
    ¬ HasBadNext vars → IsPlanFailure set failed → ⊥
no_vars_failure set vars failed spelled order next (inl why) = no_set_failure set vars failed spelled why
no_vars_failure set vars failed spelled order next (inr why) =
    no_vars_fault vars why.1 order next (subst (λ (v : Variables). IsVarsFault v why.1) (same_set set why.0 vars why.2 spelled) why.3)

module _ (no_order : (vars : Variables) (order : List ℕ) → HasBadOrder vars → HasOrder vars order → ⊥)
    (no_next : (vars : Variables) (next : Option ℕ) → HasBadNext vars → HasNext vars next → ⊥) where
  pub no_plan_failure : (set : List ℕ) (vars : Variables) (plan : PlanParts) (failed : Failure) → SpellsSet set vars →
      HasPlan vars plan → IsPlanFailure set failed → ⊥
  no_plan_failure set vars plan failed spelled has =
      no_vars_failure set vars failed spelled (λ bad. no_order vars has.order bad has.has_order) (λ bad. no_next vars has.next bad has.has_next)

next_of_choice : (next : Option Choice) (plan : PlanParts) → plan.next ≡ next →
    number_or_none (option_map (λ (choice : Choice). choice.number) next) ≡ next_number plan
next_of_choice None plan is = rw (is) refl
next_of_choice (Some choice) plan is = rw (is) refl

pub next_is : (plan : PlanParts) → number_or_none (option_map (λ (choice : Choice). choice.number) plan.next) ≡ next_number plan
next_is plan = next_of_choice plan.next plan refl

module _ (one_plan : (vars : Variables) (p q : PlanParts) → HasPlan vars p → HasPlan vars q → p ≡ q) where
  -- the plan of the numbers is that of the variables
  same_plan : (set : List ℕ) (next : Option ℕ) (normal : List ℕ) (vars : Variables) (plan : PlanParts)
      (has : HasPlanNumbers set next normal) → SpellsSet set vars → HasPlan vars plan
      → has.plan ≡ plan
  same_plan set next normal vars plan has spelled is =
      let same = same_set set has.vars vars has.spelled spelled in
      one_plan vars has.plan plan (subst (λ (v : Variables). HasPlan v has.plan) same has.has) is

  pub normal_of : (set : List ℕ) (next : Option ℕ) (normal : List ℕ) (vars : Variables) (plan : PlanParts) →
      HasPlanNumbers set next normal → SpellsSet set vars → HasPlan vars plan
      → normal ≡ normal_numbers plan
  normal_of set next normal vars plan has spelled is = has.numbers.others ∙ ap normal_numbers (same_plan set next normal vars plan has spelled is)

  pub next_of : (set : List ℕ) (next : Option ℕ) (normal : List ℕ) (vars : Variables) (plan : PlanParts) →
      HasPlanNumbers set next normal → SpellsSet set vars → HasPlan vars plan
      → number_or_none next ≡ next_number plan
  next_of set next normal vars plan has spelled is =
      ap number_or_none has.numbers.first ∙ next_is has.plan ∙ ap next_number (same_plan set next normal vars plan has spelled is)

-- ---- entries at risk

-- the numbers that are found are those of the variables
pub risk_of : (set numbers : List ℕ) (count : ℕ) (vars : Variables) (unnamed undecodable : List ℕ) →
    HasAtRisk set numbers count → SpellsSet set vars → AreAtRisk vars unnamed undecodable
    → (numbers ≡ unnamed ++ undecodable) × (count ≡ length unnamed)
risk_of set numbers count vars unnamed undecodable has spelled are =
    let mine = subst (λ (v : Variables). AreAtRisk v has.unnamed has.undecodable) (same_set set has.vars vars has.spelled spelled) has.are in
    let first = one_list (IsUnnamed vars) has.unnamed unnamed mine.are_unnamed are.are_unnamed in
    let others = one_list (IsUndecodable vars) has.undecodable undecodable mine.are_undecodable are.are_undecodable in
    (has.numbers_are ∙ ap (λ (a : List ℕ). a ++ has.undecodable) first ∙ ap (λ (b : List ℕ). unnamed ++ b) others, has.count_is ∙ ap length first)

-- ---- variables that are put

same_put_fault : (name value : List ℕ) (f g : PutFault) → IsPutFault name value f → IsPutFault name value g → f ≡ g
same_put_fault name value put.BadName put.BadName p q = refl
same_put_fault name value put.BadName put.EmptyData p q = absurd (p q.0)
same_put_fault name value put.BadName put.DataTooLong p q = absurd (p q.0)
same_put_fault name value put.BadName put.OutOfMemory p q = absurd q
same_put_fault name value put.EmptyData put.BadName p q = absurd (q p.0)
same_put_fault name value put.EmptyData put.EmptyData p q = refl
same_put_fault name value put.EmptyData put.DataTooLong p q = absurd (let len : length value ≡ 0 = ap length p.1 in omega (arith, len, q.1))
same_put_fault name value put.EmptyData put.OutOfMemory p q = absurd q
same_put_fault name value put.DataTooLong put.BadName p q = absurd (q p.0)
same_put_fault name value put.DataTooLong put.EmptyData p q = absurd (let len : length value ≡ 0 = ap length q.1 in omega (arith, len, p.1))
same_put_fault name value put.DataTooLong put.DataTooLong p q = refl
same_put_fault name value put.DataTooLong put.OutOfMemory p q = absurd q
same_put_fault name value put.OutOfMemory g p q = absurd p

no_put_fault : (name value : List ℕ) (fault : PutFault) → IsPut name value → IsPutFault name value fault → ⊥
no_put_fault name value put.BadName is why = why is.is_name
no_put_fault name value put.EmptyData is why = is.some why.1
no_put_fault name value put.DataTooLong is why = omega (arith, is.fits, why.1)
no_put_fault name value put.OutOfMemory is why = why

pub put_failure_is_of_set : (set name value : List ℕ) (fault : SetFault) (failed : Failure) → IsFirstFault set fault → IsPutFailure set name value failed
    → failed ≡ set_failure fault
put_failure_is_of_set set name value fault failed first (inl why) = set_failure_is set fault failed first why
put_failure_is_of_set set name value fault failed first (inr why) = absurd (fault_leaves_none set fault why.0 first why.2)

pub put_failure_is : (set name value : List ℕ) (vars : Variables) (fault : PutFault) (failed : Failure) → SpellsSet set vars → IsPutFault name value fault
    → IsPutFailure set name value failed → failed ≡ put_failure fault
put_failure_is set name value vars fault failed spelled is (inl why) = absurd (no_set_failure set vars failed spelled why)
put_failure_is set name value vars fault failed spelled is (inr why) = why.4 ∙ ap put_failure (same_put_fault name value why.1 fault why.3 is)

pub no_put_failure : (set name value : List ℕ) (vars : Variables) (failed : Failure) → SpellsSet set vars → IsPut name value →
    IsPutFailure set name value failed → ⊥
no_put_failure set name value vars failed spelled is (inl why) = no_set_failure set vars failed spelled why
no_put_failure set name value vars failed spelled is (inr why) = no_put_fault name value why.1 is why.3

-- ---- streams

-- the fault of a stream isn't that of a line
pub not_a_line : (stream : List ℕ) (fault : ScriptFault) → (fault ≢ script.OutOfMemory → IsStreamFault stream fault) →
    (number : ℕ) → fault ≢ script.BadLine number
not_a_line stream (script.BadLine n) own number is = own (λ e. cc)
not_a_line stream (script.Stream f) own number is = cc
not_a_line stream (script.Rest n) own number is = cc
not_a_line stream script.OutOfMemory own number is = cc

pub stream_failed : (stream : List ℕ) (fault : ScriptFault) (failed : Failure) →
    (fault ≢ script.OutOfMemory → IsStreamFault stream fault) → failed ≡ stream_failure fault
    → failed ≢ failure.Memory → IsStreamFailure stream failed
stream_failed stream script.OutOfMemory failed own is other = absurd (other is)
stream_failed stream (script.BadLine n) failed own is other = absurd (own (λ e. cc))
stream_failed stream (script.Stream f) failed own is other = (script.Stream f, own (λ e. cc), is)
stream_failed stream (script.Rest n) failed own is other = (script.Rest n, own (λ e. cc), is)
