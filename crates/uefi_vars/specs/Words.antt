-- The words of faults and of plans. Those of a fault: the fault's name, and after one blank each of its numbers in decimal.
use Rattle.std.specs.Prelude.{ℕ, List, [], ◌∷◌, ◌++◌, codes, Option, Some, None}
use Rattle.std.specs.List.{flat_map}
use Rattle.std.specs.Fmt.{decimal}
use Rattle.uefi_vars.specs.declared.fault.PutFault.{PutFault}
use Rattle.uefi_vars.specs.declared.fault.PutFault.TheVariants as put
use Rattle.uefi_vars.specs.declared.fault.SetFault.{SetFault}
use Rattle.uefi_vars.specs.declared.fault.SetFault.TheVariants as set
use Rattle.uefi_vars.specs.declared.fault.VarFault.{VarFault}
use Rattle.uefi_vars.specs.declared.fault.VarFault.TheVariants as var
use Rattle.uefi_vars.specs.declared.boot_plan.Choice.{Choice}
use Rattle.uefi_vars.specs.Name.{four_digits}
use Rattle.uefi_vars.specs.Plan.{PlanParts}

abbrev pub put_fault_words : PutFault → List ℕ
put_fault_words put.BadName = codes "BadName"
put_fault_words put.EmptyData = codes "EmptyData"
put_fault_words put.DataTooLong = codes "DataTooLong"
put_fault_words put.OutOfMemory = codes "OutOfMemory"

abbrev pub set_fault_words : SetFault → List ℕ
set_fault_words (set.BadMagic place) = codes "BadMagic " ++ decimal place
set_fault_words (set.Truncated place) = codes "Truncated " ++ decimal place
set_fault_words (set.BadName place) = codes "BadName " ++ decimal place
set_fault_words (set.BadData place) = codes "BadData " ++ decimal place
set_fault_words (set.NotRising place) = codes "NotRising " ++ decimal place
set_fault_words set.OutOfMemory = codes "OutOfMemory"

abbrev pub set_fault_place : SetFault → Option ℕ
set_fault_place (set.BadMagic place) = Some place
set_fault_place (set.Truncated place) = Some place
set_fault_place (set.BadName place) = Some place
set_fault_place (set.BadData place) = Some place
set_fault_place (set.NotRising place) = Some place
set_fault_place set.OutOfMemory = None

abbrev pub var_fault_words : VarFault → List ℕ
var_fault_words var.BadOrder = codes "BadOrder"
var_fault_words var.BadNext = codes "BadNext"
var_fault_words var.OutOfMemory = codes "OutOfMemory"

-- a blank, and the four digits of a number
abbrev pub number_words : ℕ → List ℕ
number_words number = codes " " ++ four_digits number

-- the numbers of choices, each after a blank, or what stands for none
abbrev pub choices_words : List Choice → List ℕ
choices_words [] = codes " -"
choices_words (choice ∷ choices) = flat_map (λ c. number_words c.number) (choice ∷ choices)

abbrev pub next_words : Option Choice → List ℕ
next_words None = codes " -"
next_words (Some choice) = number_words choice.number

-- a plan, in one line
abbrev pub plan_words : PlanParts → List ℕ
plan_words plan = codes "plan next" ++ (next_words plan.next ++ (codes " normal" ++ choices_words plan.normal))
