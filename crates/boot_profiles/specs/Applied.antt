-- What becomes of variables by a whole profile, or why nothing does. Its entries are taken one after the other, then BootOrder,
-- BootNext and Timeout, each over what the one before has made.
use Rattle.std.specs.Prelude.{◌≡◌, ◌⊎◌, ℕ, ◌+◌, List, [], ◌∷◌}
use Rattle.uefi_vars.specs.Vars.{Variables}
use Rattle.boot_profiles.specs.declared.fault.EntryFault.{EntryFault}
use Rattle.boot_profiles.specs.declared.fault.EntryFault.TheVariants.{Twice}
use Rattle.boot_profiles.specs.declared.fault.NameFault.{NameFault}
use Rattle.boot_profiles.specs.declared.fault.ProfileFault.{ProfileFault}
use Rattle.boot_profiles.specs.declared.fault.ProfileFault.TheVariants.{Entry, OrderName, Order, Next}
use Rattle.boot_profiles.specs.declared.profile.Profile.{Profile}
use Rattle.boot_profiles.specs.declared.profile.ProfileEntry.{ProfileEntry}
use Rattle.boot_profiles.specs.Entry.{IsEntryStep, IsEntryFault}
use Rattle.boot_profiles.specs.Order.{IsOrderStep, IsOrderFault, IsNextStep, IsNextFault, IsTimeoutStep}

-- one of the entries has the description
abbrev pub IsAmong : List ProfileEntry → List ℕ → Type 0
IsAmong [] description = ⊥
IsAmong (entry ∷ entries) description = (entry.description ≡ description) ⊎ IsAmong entries description

-- an entry, which has a description of its own among those that come after it, makes this of the variables
pub record IsStep (vars : Variables) (entry : ProfileEntry) (entries : List ProfileEntry) (to : Variables) : Type 0 where
  pub own : IsAmong entries entry.description → ⊥
  pub made : IsEntryStep vars entry to

-- why it makes nothing
abbrev pub IsStepFault : Variables → ProfileEntry → List ProfileEntry → EntryFault → Type 0
IsStepFault vars entry entries f =
    ((f ≡ Twice) × IsAmong entries entry.description)
    ⊎ ((IsAmong entries entry.description → ⊥) × IsEntryFault vars entry f)

-- all entries make this of the variables, one after the other
abbrev pub AreSteps : List ProfileEntry → Variables → Variables → Type 0
AreSteps [] from to = to ≡ from
AreSteps (entry ∷ entries) from to = (between : Variables) × IsStep from entry entries between × AreSteps entries between to

-- the first one that makes nothing is at this place, for this reason; the list begins at a place of its own
abbrev pub IsStepsFault : ℕ → List ProfileEntry → Variables → ℕ → EntryFault → Type 0
IsStepsFault first [] from place f = ⊥
IsStepsFault first (entry ∷ entries) from place f =
    ((place ≡ first) × IsStepFault from entry entries f)
    ⊎ ((between : Variables) × IsStep from entry entries between × IsStepsFault (first + 1) entries between place f)

-- its entries, and then BootOrder
pub record IsOrdered (profile : Profile) (from to : Variables) : Type 0 where
  pub with_entries : Variables
  pub entries : AreSteps profile.entries.items from with_entries
  pub order : IsOrderStep with_entries profile.order to

-- the variables that a profile leads to, with those in between
pub record IsApplied (profile : Profile) (from to : Variables) : Type 0 where
  pub with_order : Variables
  pub ordered : IsOrdered profile from with_order
  pub with_next : Variables
  pub next : IsNextStep with_order profile.next with_next
  pub timeout : IsTimeoutStep with_next profile.timeout to

-- the entries are made, but BootOrder isn't
pub record IsUnordered (profile : Profile) (from : Variables) (f : ProfileFault) : Type 0 where
  pub with_entries : Variables
  pub entries : AreSteps profile.entries.items from with_entries
  pub fault : IsOrderFault with_entries profile.order f

-- both are made, but BootNext isn't
pub record IsWithoutNext (profile : Profile) (from : Variables) (f : NameFault) : Type 0 where
  pub with_order : Variables
  pub ordered : IsOrdered profile from with_order
  pub fault : IsNextFault with_order profile.next f

-- why it leads to none
abbrev pub IsProfileFault : Profile → Variables → ProfileFault → Type 0
IsProfileFault profile from (Entry place f) = IsStepsFault 0 profile.entries.items from place f
IsProfileFault profile from (OrderName place f) = IsUnordered profile from (OrderName place f)
IsProfileFault profile from (Order f) = IsUnordered profile from (Order f)
IsProfileFault profile from (Next f) = IsWithoutNext profile from f
