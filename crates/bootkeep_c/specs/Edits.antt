-- Edits of sets as C asks for them, and what it is told.
use Rattle.std.specs.Prelude.{◌≡◌, ◌≢◌, ◌⊎◌, ℕ, ◌<◌, ◌≤◌, ◌==◌, Bool, not, List, Option}
use Rattle.uefi_vars.specs.Vars.{Variables}
use Rattle.uefi_vars.specs.Set.{SpellsSet, set_bytes}
use Rattle.boot_edits.specs.declared.addition.Addition.{Addition}
use Rattle.boot_edits.specs.declared.addition.Position.{Position}
use Rattle.boot_edits.specs.declared.addition.Position.TheVariants as position
use Rattle.boot_edits.specs.declared.answer.EditAnswer.{EditAnswer}
use Rattle.boot_edits.specs.declared.answer.EditAnswer.TheVariants as answer
use Rattle.boot_edits.specs.declared.edit.Edit.{Edit}
use Rattle.boot_edits.specs.declared.edit.Edit.TheVariants as edit
use Rattle.boot_edits.specs.declared.fault.EditFault.{EditFault}
use Rattle.boot_edits.specs.declared.reorder.NewOrder.{NewOrder}
use Rattle.boot_edits.specs.Edit.{IsEdited, IsEditFault}
use Rattle.bootkeep_c.specs.declared.edit.EditNumbers.{EditNumbers}
use Rattle.bootkeep_c.specs.declared.edit.EditedNumbers.{EditedNumbers}
use Rattle.bootkeep_c.specs.declared.failure.Failure.{Failure}
use Rattle.bootkeep_c.specs.declared.refusal.Refusal.{Refusal}
use Rattle.bootkeep_c.specs.Status.{done, no_memory}
use Rattle.bootkeep_c.specs.Buffer.{Gives, IsKept}
use Rattle.bootkeep_c.specs.Plans.{number_or_none}
use Rattle.bootkeep_c.specs.Refusals.{bare, edit_failure, Tells}
use Rattle.bootkeep_c.specs.Sets.{IsSetFailure}

-- ---- what is asked for

-- whether a number says yes: any but 0
abbrev pub is_set : ℕ → Bool
is_set number = not (number == 0)

-- the number names an entry, or stands for none
abbrev pub IsNumberAsked : ℕ → Option ℕ → Type 0
IsNumberAsked number asked = number ≡ number_or_none asked

-- and it does neither
abbrev pub IsNumberUnasked : ℕ → Failure → Type 0
IsNumberUnasked number failed = (0x10000 < number) × (failed ≡ bare 0x0E0A)

abbrev pub IsPositionAsked : ℕ → Position → Type 0
IsPositionAsked number position.Last = number ≡ 0
IsPositionAsked number position.First = number ≡ 1
IsPositionAsked number position.NoOrder = number ≡ 2

abbrev pub IsPositionUnasked : ℕ → Failure → Type 0
IsPositionUnasked number failed = (2 < number) × (failed ≡ bare 0x0E0B)

-- an entry of these bytes
pub record IsAdditionAsked (asked : EditNumbers) (option : List ℕ) (addition : Addition) : Type 0 where
  pub entry : IsNumberAsked asked.number addition.entry
  pub bytes : addition.option.now ≡ option
  pub position : IsPositionAsked asked.position addition.position
  pub again : addition.again ≡ is_set asked.again

-- BootOrder of these numbers
pub record IsOrderAsked (asked : EditNumbers) (numbers : List ℕ) (new : NewOrder) : Type 0 where
  pub entries : new.entries.now ≡ numbers
  pub stale : new.stale ≡ is_set asked.stale
  pub only : new.only ≡ is_set asked.only

-- the edit that is asked for, of these numbers or with these bytes
abbrev pub IsEditAsked : EditNumbers → List ℕ → List ℕ → Edit → Type 0
IsEditAsked asked numbers option (edit.Add addition) = (asked.kind ≡ 1) × IsAdditionAsked asked option addition
IsEditAsked asked numbers option (edit.Remove entries) = (asked.kind ≡ 2) × (entries.now ≡ numbers)
IsEditAsked asked numbers option (edit.First entries) = (asked.kind ≡ 3) × (entries.now ≡ numbers)
IsEditAsked asked numbers option (edit.Order new) = (asked.kind ≡ 4) × IsOrderAsked asked numbers new
IsEditAsked asked numbers option edit.Unrepeat = asked.kind ≡ 5
IsEditAsked asked numbers option (edit.Next next) = (asked.kind ≡ 6) × IsNumberAsked asked.number next
IsEditAsked asked numbers option (edit.Timeout seconds) = (asked.kind ≡ 7) × IsNumberAsked asked.number seconds
IsEditAsked asked numbers option (edit.Activate entries) = (asked.kind ≡ 8) × (entries.now ≡ numbers)
IsEditAsked asked numbers option (edit.Deactivate entries) = (asked.kind ≡ 9) × (entries.now ≡ numbers)

-- no edit is asked for, for this: no kind, no number or no position, of several the first one
abbrev pub IsEditUnasked : EditNumbers → Failure → Type 0
IsEditUnasked asked failed =
    (((asked.kind ≡ 0) ⊎ (9 < asked.kind)) × (failed ≡ bare 0x0E09))
    ⊎ ((((asked.kind ≡ 1) ⊎ ((asked.kind ≡ 6) ⊎ (asked.kind ≡ 7))) × IsNumberUnasked asked.number failed)
    ⊎ ((asked.kind ≡ 1) × (asked.number ≤ 0x10000) × IsPositionUnasked asked.position failed))

-- ---- what comes of it

-- the set becomes one with these bytes, and this is told
pub record IsSetEdited (asked : EditNumbers) (numbers option set bytes : List ℕ) (told : EditAnswer) : Type 0 where
  pub wanted : Edit
  pub from : Variables
  pub to : Variables
  pub asks : IsEditAsked asked numbers option wanted
  pub spelled : SpellsSet set from
  pub edited : IsEdited from wanted to told
  pub are : bytes ≡ set_bytes to

-- the variables of a set refuse the edit
pub record IsRefusedBySet (asked : EditNumbers) (numbers option set : List ℕ) (failed : Failure) : Type 0 where
  pub wanted : Edit
  pub vars : Variables
  pub reason : EditFault
  pub asks : IsEditAsked asked numbers option wanted
  pub spelled : SpellsSet set vars
  pub refuses : IsEditFault vars wanted reason
  pub is : failed ≡ edit_failure reason

-- why a set isn't edited: no edit is asked for, or, of one that is, the bytes are no set, or its variables refuse it
abbrev pub IsSetUnedited : EditNumbers → List ℕ → List ℕ → List ℕ → Failure → Type 0
IsSetUnedited asked numbers option set failed =
    IsEditUnasked asked failed
    ⊎ (((wanted : Edit) × IsEditAsked asked numbers option wanted × IsSetFailure set failed)
    ⊎ IsRefusedBySet asked numbers option set failed)

-- ---- what a call tells

abbrev pub edited_of : ℕ → ℕ → ℕ → EditedNumbers
edited_of size kind entry = record { size = size; kind = kind; entry = entry }

-- what came of an edit
abbrev pub edited_numbers : ℕ → EditAnswer → EditedNumbers
edited_numbers size answer.Done = edited_of size 0 0x10000
edited_numbers size (answer.Added entry) = edited_of size 1 entry
edited_numbers size (answer.Present entry) = edited_of size 2 entry

-- it is told if the set is given
abbrev pub TellsEdited : ℕ → EditAnswer → EditedNumbers → EditedNumbers → Type 0
TellsEdited status told old new =
    ((status ≡ done) × (new ≡ edited_numbers old.size told)) ⊎ ((status ≢ done) × (new ≡ old))

-- A set is given, if there is room for it, with what came of the edit; or a failure is told; or memory was refused. Nothing else
-- is written.
abbrev pub AnswersEdit : (List ℕ → EditAnswer → Type 0) → (Failure → Type 0) → ℕ → List ℕ → List ℕ → ℕ → ℕ → EditedNumbers → EditedNumbers → Refusal → Refusal → Type 0
AnswersEdit Is Fails status old new old_len len edited_old edited old_why why =
    ((bytes : List ℕ) × (told : EditAnswer) × Is bytes told × Gives status bytes old new len
    × TellsEdited status told edited_old edited × (why ≡ old_why))
    ⊎ (((failed : Failure) × Fails failed × Tells failed status old_why why × IsKept old new old_len len × (edited ≡ edited_old))
    ⊎ ((status ≡ no_memory) × IsKept old new old_len len × (edited ≡ edited_old) × (why ≡ old_why)))
