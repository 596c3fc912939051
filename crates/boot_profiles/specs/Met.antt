-- What a machine is to have, and whether its variables have it.
use Rattle.std.specs.Prelude.{◌≡◌, ℕ, false, List, [], ◌∷◌, Some, None}
use Rattle.std.specs.FinMap.{get}
use Rattle.uefi_vars.specs.Name.{timeout_text}
use Rattle.uefi_vars.specs.Order.{HasOrder, HasNext}
use Rattle.uefi_vars.specs.Vars.{Variables}
use Rattle.boot_requests.specs.Apply.{in_front}
use Rattle.boot_edits.specs.Edit.{stored_timeout}
use Rattle.boot_edits.specs.Lists.{IsMissing, IsStale, AreFine}
use Rattle.boot_profiles.specs.declared.profile.EntryState.{EntryState}
use Rattle.boot_profiles.specs.declared.profile.EntryState.TheVariants.{Absent, Present}
use Rattle.boot_profiles.specs.declared.profile.PresentEntry.{PresentEntry}
use Rattle.boot_profiles.specs.declared.profile.Profile.{Profile}
use Rattle.boot_profiles.specs.declared.profile.ProfileEntry.{ProfileEntry}
use Rattle.boot_profiles.specs.declared.profile.ProfileNext.{ProfileNext}
use Rattle.boot_profiles.specs.declared.profile.ProfileNext.TheVariants as next
use Rattle.boot_profiles.specs.declared.profile.ProfileOrder.{ProfileOrder}
use Rattle.boot_profiles.specs.declared.profile.ProfileOrder.TheVariants as order
use Rattle.boot_profiles.specs.declared.profile.ProfileTimeout.{ProfileTimeout}
use Rattle.boot_profiles.specs.declared.profile.ProfileTimeout.TheVariants as timeout
use Rattle.boot_profiles.specs.Applied.{IsAmong}
use Rattle.boot_profiles.specs.Described.{IsDescribed, IsNumberOf, IsUnknown, IsNamed}
use Rattle.boot_profiles.specs.Entry.{wanted_bytes}
use Rattle.boot_profiles.specs.Order.{AreNamed}

-- one entry has the description, and its bytes are those of the option; if the profile doesn't say whether it is active, it may
-- be either
pub record IsThere (vars : Variables) (description : List ℕ) (entry : PresentEntry) : Type 0 where
  pub number : ℕ
  pub bytes : List ℕ
  pub here : IsDescribed vars description number bytes
  pub alone : (other : ℕ) → IsNumberOf vars description other → other ≡ number
  pub as_wanted : bytes ≡ wanted_bytes entry bytes

abbrev pub IsStateMet : Variables → List ℕ → EntryState → Type 0
IsStateMet vars description Absent = IsUnknown vars description
IsStateMet vars description (Present entry) = IsThere vars description entry

abbrev pub IsEntryMet : Variables → ProfileEntry → Type 0
IsEntryMet vars entry = IsStateMet vars entry.description entry.state

-- all entries are so, and no two speak of one description
abbrev pub AreMet : Variables → List ProfileEntry → Type 0
AreMet vars [] = Unit {0}
AreMet vars (entry ∷ entries) = IsEntryMet vars entry × (IsAmong entries entry.description → ⊥) × AreMet vars entries

-- the entries of these names come first in BootOrder, each once, and nowhere after that: put in front, they change nothing
pub record AreFirst (vars : Variables) (names : List (List ℕ)) : Type 0 where
  pub numbers : List ℕ
  pub named : AreNamed vars names numbers
  pub once : AreFine (IsMissing vars) numbers
  pub order : List ℕ
  pub has_order : HasOrder vars order
  pub front : order ≡ in_front numbers order

-- they are BootOrder, each once
pub record AreAlone (vars : Variables) (names : List (List ℕ)) : Type 0 where
  pub numbers : List ℕ
  pub named : AreNamed vars names numbers
  pub once : AreFine (IsStale false vars) numbers
  pub has_order : HasOrder vars numbers

abbrev pub IsOrderMet : Variables → ProfileOrder → Type 0
IsOrderMet vars order.Kept = Unit {0}
IsOrderMet vars (order.First names) = AreFirst vars names.items
IsOrderMet vars (order.Only names) = AreAlone vars names.items

abbrev pub IsNextMet : Variables → ProfileNext → Type 0
IsNextMet vars next.Kept = Unit {0}
IsNextMet vars next.Gone = HasNext vars None
IsNextMet vars (next.Entry name) = (number : ℕ) × IsNamed vars name number × HasNext vars (Some number)

abbrev pub IsTimeoutMet : Variables → ProfileTimeout → Type 0
IsTimeoutMet vars timeout.Kept = Unit {0}
IsTimeoutMet vars timeout.Gone = get vars timeout_text ≡ None
IsTimeoutMet vars (timeout.Seconds seconds) = get vars timeout_text ≡ stored_timeout (Some seconds)

-- the variables have what the profile says
pub record IsMet (profile : Profile) (vars : Variables) : Type 0 where
  pub entries : AreMet vars profile.entries.items
  pub order : IsOrderMet vars profile.order
  pub next : IsNextMet vars profile.next
  pub timeout : IsTimeoutMet vars profile.timeout
