-- Runs of edits over what a machine keeps: the variables of the boot manager with their attributes.
use Rattle.std.specs.Prelude.{◌≡◌, ◌≢◌}
use Rattle.uefi_vars.specs.Vars.{Variables}
use Rattle.boot_journal.specs.Attributes.{data_of, with_attributes, HasNoData, HasLongData}
use Rattle.boot_edits.specs.declared.answer.EditAnswer.{EditAnswer}
use Rattle.boot_edits.specs.declared.edit.Edit.{Edit}
use Rattle.boot_edits.specs.declared.fault.EditFault.TheVariants as fault
use Rattle.boot_edits.specs.declared.run.EditRunFault.{EditRunFault}
use Rattle.boot_edits.specs.declared.run.EditRunFault.TheVariants as run
use Rattle.boot_edits.specs.Edit.{IsEdited, IsEditFault}

-- what is kept becomes this, and this is told: the data is edited, and each variable has the attributes that it had
pub record IsRun (edit : Edit) (from to : Variables) (answer : EditAnswer) : Type 0 where
  pub set : Variables
  pub edited : IsEdited (data_of from) edit set answer
  pub is : to ≡ with_attributes from set

-- the edit leads to more data than a set takes together with its attributes
pub record LeadsTooFar (edit : Edit) (from : Variables) : Type 0 where
  pub set : Variables
  pub answer : EditAnswer
  pub edited : IsEdited (data_of from) edit set answer
  pub long : HasLongData set

-- why there is no such run
abbrev pub IsRunFault : Edit → Variables → EditRunFault → Type 0
IsRunFault edit from (run.Edit f) = (f ≢ fault.OutOfMemory) × IsEditFault (data_of from) edit f
IsRunFault edit from run.NoData = HasNoData from
IsRunFault edit from run.TooLong = LeadsTooFar edit from

-- for private functions: why variables aren't edited
abbrev pub IsEditRefusal : Variables → Edit → EditRunFault → Type 0
IsEditRefusal vars edit (run.Edit f) = (f ≢ fault.OutOfMemory) × IsEditFault vars edit f
IsEditRefusal vars edit run.NoData = ⊥
IsEditRefusal vars edit run.TooLong = ⊥
