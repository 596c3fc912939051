-- What comes of an edit, or why there is none.
use Rattle.std.specs.Prelude.{◌≡◌, ◌≢◌, ◌⊎◌, ℕ, ◌<◌, ◌≤◌, Bool, true, false, List, length, Option, Some, None}
use Rattle.std.specs.Int.{w16, to_le_bytes}
use Rattle.std.specs.Option.{option_map}
use Rattle.uefi_vars.specs.Name.{timeout_text}
use Rattle.uefi_vars.specs.NameChanges.{with_data}
use Rattle.uefi_vars.specs.Order.{order_max, HasOrder, HasNext, HasBadOrder, HasBadNext, stored_order, stored_next}
use Rattle.uefi_vars.specs.Vars.{Variables, entry_of}
use Rattle.boot_requests.specs.Apply.{without_all, in_front}
use Rattle.boot_edits.specs.declared.answer.EditAnswer.{EditAnswer}
use Rattle.boot_edits.specs.declared.answer.EditAnswer.TheVariants.{Done}
use Rattle.boot_edits.specs.declared.edit.Edit.{Edit}
use Rattle.boot_edits.specs.declared.edit.Edit.TheVariants.{Add, Remove, First, Order, Unrepeat, Next, Timeout, Activate, Deactivate}
use Rattle.boot_edits.specs.declared.fault.EditFault.{EditFault}
use Rattle.boot_edits.specs.declared.fault.EditFault.TheVariants.{BadOrder, BadNext, OrderTooLong}
use Rattle.boot_edits.specs.Addition.{IsAdditionDone, IsAdditionFault}
use Rattle.boot_edits.specs.Lists.{IsMissing, IsStale, IsNoOption, AreFine, IsFirstFault}
use Rattle.boot_edits.specs.Orders.{extended, each_once, next_without_all}
use Rattle.boot_edits.specs.Parts.{parts_of, Becomes, entries_changed, is_stored, IsOldOrder, IsOtherName}
use Rattle.boot_edits.specs.Switch.{switched}

-- ---- entries are taken out

pub record IsRemoved (vars : Variables) (numbers : List ℕ) (to : Variables) : Type 0 where
  pub fine : AreFine (IsMissing vars) numbers
  pub order : List ℕ
  pub has_order : HasOrder vars order
  pub next : Option ℕ
  pub has_next : HasNext vars next
  pub becomes : Becomes vars
      (record {
        entries = entries_changed numbers (λ bytes. None) (entry_of vars);
        order = stored_order (without_all numbers order);
        next = stored_next (next_without_all numbers next);
      }) to

abbrev pub IsRemoveFault : Variables → List ℕ → EditFault → Type 0
IsRemoveFault vars numbers f =
    IsFirstFault (IsMissing vars) numbers f
    ⊎ (AreFine (IsMissing vars) numbers
    × (((f ≡ BadOrder) × HasBadOrder vars) ⊎ ((f ≡ BadNext) × (¬ HasBadOrder vars) × HasBadNext vars)))

-- ---- the order becomes another one

-- the numbers come first, and then the rest of the old order
abbrev pub IsFrontOrder : Variables → List ℕ → List ℕ → Type 0
IsFrontOrder vars numbers order = (old : List ℕ) × IsOldOrder vars old × (order ≡ in_front numbers old)

-- The order is the numbers, and unless they are to be alone those of the old order that have an entry and aren't among them, each
-- once.
abbrev pub IsNewOrder : Variables → Bool → List ℕ → List ℕ → Type 0
IsNewOrder vars true numbers order = order ≡ numbers
IsNewOrder vars false numbers order = (old : List ℕ) × IsOldOrder vars old × (order ≡ extended (is_stored vars) numbers old)

-- the order becomes this one, and all else stays
abbrev pub IsOrderOf : Variables → List ℕ → Variables → Type 0
IsOrderOf vars order to = Becomes vars (record (parts_of vars) { order = stored_order order }) to

-- no number is refused, and the order becomes one that is so
pub record IsReordered (vars : Variables) (IsRefused : ℕ → EditFault → Type 0) (numbers : List ℕ) (IsSo : List ℕ → Type 0) (to : Variables) : Type 0 where
  pub fine : AreFine IsRefused numbers
  pub order : List ℕ
  pub is : IsSo order
  pub fits : length order ≤ order_max
  pub becomes : IsOrderOf vars order to

-- a number is refused, or there is no room for such an order
abbrev pub IsReorderFault : (ℕ → EditFault → Type 0) → List ℕ → (List ℕ → Type 0) → EditFault → Type 0
IsReorderFault IsRefused numbers IsSo f =
    IsFirstFault IsRefused numbers f
    ⊎ (AreFine IsRefused numbers × (f ≡ OrderTooLong) × ((order : List ℕ) × IsSo order × (order_max < length order)))

-- ---- the order has each number once

pub record IsUnrepeated (vars to : Variables) : Type 0 where
  pub order : List ℕ
  pub has_order : HasOrder vars order
  pub becomes : IsOrderOf vars (each_once order) to

abbrev pub IsUnrepeatFault : Variables → EditFault → Type 0
IsUnrepeatFault vars f = (f ≡ BadOrder) × HasBadOrder vars

-- ---- BootNext names an entry, or is gone

abbrev pub IsNextOf : Variables → Option ℕ → Variables → Type 0
IsNextOf vars next to = Becomes vars (record (parts_of vars) { next = stored_next next }) to

abbrev pub IsNextSet : Variables → Option ℕ → Variables → Type 0
IsNextSet vars None to = IsNextOf vars None to
IsNextSet vars (Some number) to = (entry_of vars number ≢ None) × IsNextOf vars (Some number) to

abbrev pub IsNextFault : Variables → Option ℕ → EditFault → Type 0
IsNextFault vars None f = ⊥
IsNextFault vars (Some number) f = IsMissing vars number f

-- ---- Timeout becomes so many seconds, or is gone

-- what is stored of so many seconds: two bytes
abbrev pub stored_timeout : Option ℕ → Option (List ℕ)
stored_timeout None = None
stored_timeout (Some seconds) = Some (to_le_bytes w16 seconds)

-- all other variables stay
abbrev pub IsTimeoutSet : Variables → Option ℕ → Variables → Type 0
IsTimeoutSet vars seconds to = to ≡ with_data vars timeout_text (stored_timeout seconds)

-- ---- entries are made active, or not

pub record AreSwitched (vars : Variables) (active : Bool) (numbers : List ℕ) (to : Variables) : Type 0 where
  pub fine : AreFine (IsNoOption vars) numbers
  pub becomes : Becomes vars
      (record (parts_of vars) { entries = entries_changed numbers (option_map (switched active)) (entry_of vars) }) to

-- ---- all edits

-- of the variables these become, and this is told
abbrev pub IsEdited : Variables → Edit → Variables → EditAnswer → Type 0
IsEdited vars (Add addition) to answer = IsAdditionDone vars addition to answer
IsEdited vars (Remove numbers) to answer = (answer ≡ Done) × IsRemoved vars numbers.now to
IsEdited vars (First numbers) to answer =
    (answer ≡ Done) × IsReordered vars (IsMissing vars) numbers.now (IsFrontOrder vars numbers.now) to
IsEdited vars (Order new) to answer =
    (answer ≡ Done) × IsReordered vars (IsStale new.stale vars) new.entries.now (IsNewOrder vars new.only new.entries.now) to
IsEdited vars Unrepeat to answer = (answer ≡ Done) × IsUnrepeated vars to
IsEdited vars (Next next) to answer = (answer ≡ Done) × IsNextSet vars next to
IsEdited vars (Timeout seconds) to answer = (answer ≡ Done) × IsTimeoutSet vars seconds to
IsEdited vars (Activate numbers) to answer = (answer ≡ Done) × AreSwitched vars true numbers.now to
IsEdited vars (Deactivate numbers) to answer = (answer ≡ Done) × AreSwitched vars false numbers.now to

-- the edit of the variables is refused for this fault
abbrev pub IsEditFault : Variables → Edit → EditFault → Type 0
IsEditFault vars (Add addition) f = IsAdditionFault vars addition f
IsEditFault vars (Remove numbers) f = IsRemoveFault vars numbers.now f
IsEditFault vars (First numbers) f = IsReorderFault (IsMissing vars) numbers.now (IsFrontOrder vars numbers.now) f
IsEditFault vars (Order new) f =
    IsReorderFault (IsStale new.stale vars) new.entries.now (IsNewOrder vars new.only new.entries.now) f
IsEditFault vars Unrepeat f = IsUnrepeatFault vars f
IsEditFault vars (Next next) f = IsNextFault vars next f
IsEditFault vars (Timeout seconds) f = ⊥
IsEditFault vars (Activate numbers) f = IsFirstFault (IsNoOption vars) numbers.now f
IsEditFault vars (Deactivate numbers) f = IsFirstFault (IsNoOption vars) numbers.now f

-- ---- what edits leave alone

-- the edit is of Timeout, and the variable of this name another one; or the edit is of entries, BootOrder or BootNext, and this
-- is the name of neither
abbrev pub IsLeft : Edit → List ℕ → Type 0
IsLeft (Add addition) name = IsOtherName name
IsLeft (Remove numbers) name = IsOtherName name
IsLeft (First numbers) name = IsOtherName name
IsLeft (Order new) name = IsOtherName name
IsLeft Unrepeat name = IsOtherName name
IsLeft (Next next) name = IsOtherName name
IsLeft (Timeout seconds) name = name ≢ timeout_text
IsLeft (Activate numbers) name = IsOtherName name
IsLeft (Deactivate numbers) name = IsOtherName name
