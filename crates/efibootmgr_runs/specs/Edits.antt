-- The edits of boot entries that make the changes.
use Rattle.std.specs.Prelude.{◌≡◌, ℕ, Bool, true, false, not, List, [], ◌∷◌, Option, Some, None, if◌then◌else◌}
use Rattle.std.specs.Global.{Vec}
use Rattle.efibootmgr_words.specs.declared.asked_words.Asked.{Asked}
use Rattle.efibootmgr_runs.specs.declared.planned.Planned.{Planned}
use Rattle.efibootmgr_runs.specs.declared.planned.Planned.TheVariants as plan
use Rattle.boot_edits.specs.declared.edit.Edit.{Edit}
use Rattle.boot_edits.specs.declared.edit.Edit.TheVariants as edit
use Rattle.boot_edits.specs.declared.addition.Addition.{Addition}
use Rattle.boot_edits.specs.declared.addition.Position.TheVariants as position
use Rattle.boot_edits.specs.declared.reorder.NewOrder.{NewOrder}

-- the numbers that BootOrder is to have
abbrev pub numbers_asked : Option (Vec ℕ) → List ℕ
numbers_asked None = []
numbers_asked (Some numbers) = numbers.items

-- an entry of these bytes, whatever else is there: first in BootOrder, unless it is to stay out of it
abbrev pub IsAdditionOf : Asked → List ℕ → Addition → Type 0
IsAdditionOf asked option addition =
    (addition.entry ≡ asked.entry)
    × (addition.option.now ≡ option)
    × (addition.position ≡ (if asked.no_order then position.NoOrder else position.First))
    × (addition.again ≡ true)

-- BootOrder with these numbers, each of an entry, as the whole of it or before what it has
abbrev pub IsOrderOf : List ℕ → Bool → NewOrder → Type 0
IsOrderOf entries only new = (new.entries.now ≡ entries) × (new.stale ≡ false) × (new.only ≡ only)

-- the edit that makes a change that is asked for, an entry of these bytes if one is to be made
abbrev pub IsEditOf : Asked → List ℕ → Planned → Edit → Type 0
IsEditOf asked option (plan.Delete entry) (edit.Remove entries) = entries.now ≡ entry ∷ []
IsEditOf asked option (plan.Activate entry) (edit.Activate entries) = entries.now ≡ entry ∷ []
IsEditOf asked option (plan.Deactivate entry) (edit.Deactivate entries) = entries.now ≡ entry ∷ []
IsEditOf asked option plan.Create (edit.Add addition) = IsAdditionOf asked option addition
IsEditOf asked option plan.DeleteOrder (edit.Order new) = IsOrderOf [] true new
IsEditOf asked option plan.Order (edit.Order new) = IsOrderOf (numbers_asked asked.order) (not asked.keep) new
IsEditOf asked option plan.RemoveRepeats edit.Unrepeat = Unit
IsEditOf asked option plan.DeleteNext (edit.Next next) = next ≡ None
IsEditOf asked option plan.DeleteTimeout (edit.Timeout seconds) = seconds ≡ None
IsEditOf asked option (plan.Next entry) (edit.Next next) = next ≡ Some entry
IsEditOf asked option (plan.Timeout seconds) (edit.Timeout until) = until ≡ Some seconds
IsEditOf asked option change other = ⊥
