-- Why a call on a set is refused.
use Rattle.std.specs.Prelude.{◌≡◌, ◌≢◌, ◌⊎◌, ℕ, ◌<◌, ◌≤◌, List, [], ◌++◌, length, Option, Some, None}
use Rattle.std.specs.FinMap as map
use Rattle.uefi_vars.specs.declared.fault.SetFault.{SetFault}
use Rattle.uefi_vars.specs.declared.fault.VarFault.{VarFault}
use Rattle.uefi_vars.specs.declared.fault.VarFault.TheVariants as var
use Rattle.uefi_vars.specs.declared.fault.PutFault.{PutFault}
use Rattle.uefi_vars.specs.declared.fault.PutFault.TheVariants as put
use Rattle.uefi_vars.specs.Name.{IsName}
use Rattle.uefi_vars.specs.Vars.{Variables, data_max}
use Rattle.uefi_vars.specs.Set.{SpellsSet}
use Rattle.uefi_vars.specs.Fault.{IsFirstFault}
use Rattle.uefi_vars.specs.Order.{HasBadOrder, HasBadNext}
use Rattle.uefi_vars.specs.Plan.{PlanParts, HasPlan, AreNumbersOf}
use Rattle.uefi_vars.specs.AtRisk.{IsUnnamed, IsUndecodable, AreThose}
use Rattle.bootkeep_c.specs.declared.failure.Failure.{Failure}
use Rattle.bootkeep_c.specs.Status.{absent}
use Rattle.bootkeep_c.specs.Refusals.{set_failure, vars_failure, put_failure}
use Rattle.bootkeep_c.specs.Buffer.{Gives, IsKept}

-- the bytes aren't a set, for this
abbrev pub IsSetFailure : List ℕ → Failure → Type 0
IsSetFailure set failed = (fault : SetFault) × IsFirstFault set fault × (failed ≡ set_failure fault)

-- ---- plans

-- why variables have no plan, and no entries at risk
abbrev pub IsVarsFault : Variables → VarFault → Type 0
IsVarsFault vars var.BadOrder = HasBadOrder vars
IsVarsFault vars var.BadNext = (¬ HasBadOrder vars) × HasBadNext vars
IsVarsFault vars var.OutOfMemory = ⊥

-- the bytes aren't a set, or its variables have no plan, and no entries at risk
abbrev pub IsPlanFailure : List ℕ → Failure → Type 0
IsPlanFailure set failed =
    IsSetFailure set failed
    ⊎ ((vars : Variables) × (fault : VarFault) × SpellsSet set vars × IsVarsFault vars fault × (failed ≡ vars_failure fault))

-- the set has a plan, of these numbers
pub record HasPlanNumbers (set : List ℕ) (next : Option ℕ) (normal : List ℕ) : Type 0 where
  pub vars : Variables
  pub plan : PlanParts
  pub spelled : SpellsSet set vars
  pub has : HasPlan vars plan
  pub numbers : AreNumbersOf plan next normal

-- ---- entries at risk

-- neither BootOrder nor BootNext is bad, and these are the entries that a start of firmware may write over or delete
pub record AreAtRisk (vars : Variables) (unnamed undecodable : List ℕ) : Type 0 where
  pub good_order : ¬ HasBadOrder vars
  pub good_next : ¬ HasBadNext vars
  pub are_unnamed : AreThose (IsUnnamed vars) unnamed
  pub are_undecodable : AreThose (IsUndecodable vars) undecodable

-- the set has these at risk, of which this many are unnamed
pub record HasAtRisk (set numbers : List ℕ) (count : ℕ) : Type 0 where
  pub vars : Variables
  pub unnamed : List ℕ
  pub undecodable : List ℕ
  pub spelled : SpellsSet set vars
  pub are : AreAtRisk vars unnamed undecodable
  pub numbers_are : numbers ≡ unnamed ++ undecodable
  pub count_is : count ≡ length unnamed

-- ---- variables that are put

-- a name and data that can be put into a set
pub record IsPut (name value : List ℕ) : Type 0 where
  pub is_name : IsName name
  pub some : value ≢ []
  pub fits : length value ≤ data_max

-- why a name and data can't be put into a set
abbrev pub IsPutFault : List ℕ → List ℕ → PutFault → Type 0
IsPutFault name value put.BadName = ¬ IsName name
IsPutFault name value put.EmptyData = IsName name × (value ≡ [])
IsPutFault name value put.DataTooLong = IsName name × (data_max < length value)
IsPutFault name value put.OutOfMemory = ⊥

-- the bytes aren't a set, or the name and the data can't be put into one
abbrev pub IsPutFailure : List ℕ → List ℕ → List ℕ → Failure → Type 0
IsPutFailure set name value failed =
    IsSetFailure set failed
    ⊎ ((vars : Variables) × (fault : PutFault) × SpellsSet set vars × IsPutFault name value fault × (failed ≡ put_failure fault))

-- ---- for private functions

-- the text is the name, or nothing if that is no name
abbrev pub IsNameText : List ℕ → List ℕ → Type 0
IsNameText name text = (text ≡ name) ⊎ ((¬ IsName name) × (text ≡ []))

-- the data under the name is given, if there is one, and otherwise the status says that there is none
abbrev pub GivesValue : Variables → List ℕ → ℕ → List ℕ → List ℕ → ℕ → ℕ → Type 0
GivesValue vars name status old new old_len len =
    ((value : List ℕ) × (map.get vars name ≡ Some value) × Gives status value old new len)
    ⊎ ((map.get vars name ≡ None) × (status ≡ absent) × IsKept old new old_len len)
