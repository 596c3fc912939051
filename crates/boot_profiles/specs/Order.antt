-- What becomes of BootOrder, BootNext and Timeout by a profile, and why nothing does.
use Rattle.std.specs.Prelude.{◌≡◌, ◌⊎◌, ℕ, ◌+◌, true, false, List, [], ◌∷◌, Some, None}
use Rattle.uefi_vars.specs.Vars.{Variables}
use Rattle.boot_edits.specs.Edit.{IsFrontOrder, IsNewOrder, IsReordered, IsReorderFault, IsNextSet, IsTimeoutSet}
use Rattle.boot_edits.specs.Lists.{IsMissing, IsStale}
use Rattle.boot_edits.specs.declared.fault.EditFault.{EditFault}
use Rattle.boot_profiles.specs.declared.fault.NameFault.{NameFault}
use Rattle.boot_profiles.specs.declared.fault.NameFault.TheVariants.{Unknown, Ambiguous}
use Rattle.boot_profiles.specs.declared.fault.ProfileFault.{ProfileFault}
use Rattle.boot_profiles.specs.declared.fault.ProfileFault.TheVariants.{Entry, OrderName, Order, Next}
use Rattle.boot_profiles.specs.declared.profile.ProfileNext.{ProfileNext}
use Rattle.boot_profiles.specs.declared.profile.ProfileNext.TheVariants as next
use Rattle.boot_profiles.specs.declared.profile.ProfileOrder.{ProfileOrder}
use Rattle.boot_profiles.specs.declared.profile.ProfileOrder.TheVariants as order
use Rattle.boot_profiles.specs.declared.profile.ProfileTimeout.{ProfileTimeout}
use Rattle.boot_profiles.specs.declared.profile.ProfileTimeout.TheVariants as timeout
use Rattle.boot_profiles.specs.Described.{IsUnknown, IsNamed, IsAmbiguous}

-- ---- descriptions that name entries

-- each names the entry of the number at its place
abbrev pub AreNamed : Variables → List (List ℕ) → List ℕ → Type 0
AreNamed vars [] [] = Unit {0}
AreNamed vars [] (number ∷ numbers) = ⊥
AreNamed vars (description ∷ descriptions) [] = ⊥
AreNamed vars (description ∷ descriptions) (number ∷ numbers) = IsNamed vars description number × AreNamed vars descriptions numbers

-- why a description names no entry
abbrev pub IsNameFault : Variables → List ℕ → NameFault → Type 0
IsNameFault vars description Unknown = IsUnknown vars description
IsNameFault vars description Ambiguous = IsAmbiguous vars description

-- the first description that names none is at this place, for this reason; the list begins at a place of its own
abbrev pub IsNamesFault : Variables → ℕ → List (List ℕ) → ℕ → NameFault → Type 0
IsNamesFault vars first [] place f = ⊥
IsNamesFault vars first (description ∷ descriptions) place f =
    ((place ≡ first) × IsNameFault vars description f)
    ⊎ (((number : ℕ) × IsNamed vars description number) × IsNamesFault vars (first + 1) descriptions place f)

-- ---- BootOrder

-- the entries come first, and the others after them as they were; one that can't be read counts as empty
abbrev pub IsPutFirst : Variables → List ℕ → Variables → Type 0
IsPutFirst vars numbers to = IsReordered vars (IsMissing vars) numbers (IsFrontOrder vars numbers) to

-- BootOrder has the entries, and no others
abbrev pub IsPutAlone : Variables → List ℕ → Variables → Type 0
IsPutAlone vars numbers to = IsReordered vars (IsStale false vars) numbers (IsNewOrder vars true numbers) to

abbrev pub IsOrderStep : Variables → ProfileOrder → Variables → Type 0
IsOrderStep vars order.Kept to = to ≡ vars
IsOrderStep vars (order.First names) to = (numbers : List ℕ) × AreNamed vars names.items numbers × IsPutFirst vars numbers to
IsOrderStep vars (order.Only names) to = (numbers : List ℕ) × AreNamed vars names.items numbers × IsPutAlone vars numbers to

-- why no list of names becomes BootOrder: one names no entry, or their entries aren't put there for this fault
abbrev pub IsListFault : Variables → List (List ℕ) → (List ℕ → EditFault → Type 0) → ProfileFault → Type 0
IsListFault vars names IsFault (Entry place f) = ⊥
IsListFault vars names IsFault (OrderName place f) = IsNamesFault vars 0 names place f
IsListFault vars names IsFault (Order f) = (numbers : List ℕ) × AreNamed vars names numbers × IsFault numbers f
IsListFault vars names IsFault (Next f) = ⊥

abbrev pub IsFirstFault : Variables → List ℕ → EditFault → Type 0
IsFirstFault vars numbers f = IsReorderFault (IsMissing vars) numbers (IsFrontOrder vars numbers) f

abbrev pub IsAloneFault : Variables → List ℕ → EditFault → Type 0
IsAloneFault vars numbers f = IsReorderFault (IsStale false vars) numbers (IsNewOrder vars true numbers) f

abbrev pub IsOrderFault : Variables → ProfileOrder → ProfileFault → Type 0
IsOrderFault vars order.Kept f = ⊥
IsOrderFault vars (order.First names) f = IsListFault vars names.items (IsFirstFault vars) f
IsOrderFault vars (order.Only names) f = IsListFault vars names.items (IsAloneFault vars) f

-- ---- BootNext

abbrev pub IsNextStep : Variables → ProfileNext → Variables → Type 0
IsNextStep vars next.Kept to = to ≡ vars
IsNextStep vars next.Gone to = IsNextSet vars None to
IsNextStep vars (next.Entry name) to = (number : ℕ) × IsNamed vars name number × IsNextSet vars (Some number) to

-- why it isn't set: the description names no entry
abbrev pub IsNextFault : Variables → ProfileNext → NameFault → Type 0
IsNextFault vars next.Kept f = ⊥
IsNextFault vars next.Gone f = ⊥
IsNextFault vars (next.Entry name) f = IsNameFault vars name f

-- ---- Timeout

abbrev pub IsTimeoutStep : Variables → ProfileTimeout → Variables → Type 0
IsTimeoutStep vars timeout.Kept to = to ≡ vars
IsTimeoutStep vars timeout.Gone to = IsTimeoutSet vars None to
IsTimeoutStep vars (timeout.Seconds seconds) to = IsTimeoutSet vars (Some seconds) to
