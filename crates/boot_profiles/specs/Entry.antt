-- What becomes of variables by one entry of a profile, and why nothing does.
use Rattle.std.specs.Prelude.{◌≡◌, ◌≢◌, ◌⊎◌, ℕ, ◌%◌, ◌==◌, ◌<◌, ◌≤◌, Bool, false, List, [], ◌∷◌, length, Option, Some, None}
use Rattle.std.specs.FinMap.{insert}
use Rattle.uefi_option.specs.Fault.{IsFirstFault as IsFirstOptionFault}
use Rattle.uefi_vars.specs.AtRisk.{AreThose}
use Rattle.uefi_vars.specs.Free.{IsLowestFree}
use Rattle.uefi_vars.specs.Name.{entry_text}
use Rattle.uefi_vars.specs.Order.{order_max, HasOrder, stored_order}
use Rattle.uefi_vars.specs.Vars.{Variables, data_max, entry_of}
use Rattle.boot_edits.specs.Addition.{IsNumberFault, IsOrderFault}
use Rattle.boot_edits.specs.Edit.{IsRemoved, IsRemoveFault}
use Rattle.boot_edits.specs.Orders.{with_last}
use Rattle.boot_edits.specs.Parts.{parts_of, Becomes, entries_with}
use Rattle.boot_edits.specs.Switch.{switched}
use Rattle.boot_edits.specs.declared.addition.Position.TheVariants.{Last}
use Rattle.boot_edits.specs.declared.fault.EditFault.{EditFault}
use Rattle.boot_edits.specs.declared.fault.EditFault.TheVariants as edit
use Rattle.boot_profiles.specs.declared.fault.EntryFault.{EntryFault}
use Rattle.boot_profiles.specs.declared.fault.EntryFault.TheVariants.{Twice, BadOption, OtherDescription, Ambiguous, Edit}
use Rattle.boot_profiles.specs.declared.profile.EntryState.{EntryState}
use Rattle.boot_profiles.specs.declared.profile.EntryState.TheVariants.{Absent, Present}
use Rattle.boot_profiles.specs.declared.profile.PresentEntry.{PresentEntry}
use Rattle.boot_profiles.specs.declared.profile.ProfileEntry.{ProfileEntry}
use Rattle.boot_profiles.specs.Described.{HasDescription, IsDescribed, IsNumberOf, IsUnknown, IsAmbiguous}

-- ---- the bytes that an entry is to have

-- whether the bit LOAD_OPTION_ACTIVE of an entry is set: bit 0 of its first byte
abbrev pub bit_0 : List ℕ → Bool
bit_0 [] = false
bit_0 (byte ∷ bytes) = byte % 2 == 1

-- whether it is to be set, if these bytes are there: as the profile says, or else as it is
abbrev pub is_to_be_active : Option Bool → List ℕ → Bool
is_to_be_active (Some active) there = active
is_to_be_active None there = bit_0 there

-- The bytes that the entry is to have, if these are there: those of its option, so its paths, its optional data and its
-- attributes, but for the bit LOAD_OPTION_ACTIVE.
abbrev pub wanted_bytes : PresentEntry → List ℕ → List ℕ
wanted_bytes entry there = switched (is_to_be_active entry.active there) entry.option.items

-- ---- an entry that is to be there

-- It is stored under the lowest free number, with these bytes, and comes last in BootOrder, so that it is tried at all, and
-- after what was tried before.
pub record IsNew (vars : Variables) (bytes : List ℕ) (to : Variables) : Type 0 where
  pub number : ℕ
  pub free : IsLowestFree (entry_of vars) number
  pub fits : length bytes ≤ data_max
  pub order : List ℕ
  pub has_order : HasOrder vars order
  pub has_room : length (with_last order number) ≤ order_max
  pub becomes : Becomes vars
      (record (parts_of vars) { entries = entries_with number bytes (entry_of vars); order = stored_order (with_last order number) }) to

-- the one that is there gets the bytes that it is to have, and keeps its number and its place
pub record IsReplaced (vars : Variables) (description : List ℕ) (entry : PresentEntry) (to : Variables) : Type 0 where
  pub number : ℕ
  pub bytes : List ℕ
  pub here : IsDescribed vars description number bytes
  pub alone : (other : ℕ) → IsNumberOf vars description other → other ≡ number
  pub fits : length (wanted_bytes entry bytes) ≤ data_max
  pub is : to ≡ insert vars (entry_text number) (wanted_bytes entry bytes)

-- its option has its description, and one of the two happens
abbrev pub IsPresentStep : Variables → List ℕ → PresentEntry → Variables → Type 0
IsPresentStep vars description entry to =
    HasDescription entry.option.items description
    × ((IsUnknown vars description × IsNew vars (wanted_bytes entry entry.option.items) to) ⊎ IsReplaced vars description entry to)

-- ---- entries that aren't to be there

-- these are taken out; if there are none, nothing is looked at
abbrev pub IsTakenOut : Variables → List ℕ → Variables → Type 0
IsTakenOut vars [] to = to ≡ vars
IsTakenOut vars (number ∷ numbers) to = IsRemoved vars (number ∷ numbers) to

-- all that have the description are
abbrev pub IsAbsentStep : Variables → List ℕ → Variables → Type 0
IsAbsentStep vars description to = (numbers : List ℕ) × AreThose (IsNumberOf vars description) numbers × IsTakenOut vars numbers to

-- ---- either

abbrev pub IsStateStep : Variables → List ℕ → EntryState → Variables → Type 0
IsStateStep vars description Absent to = IsAbsentStep vars description to
IsStateStep vars description (Present entry) to = IsPresentStep vars description entry to

abbrev pub IsEntryStep : Variables → ProfileEntry → Variables → Type 0
IsEntryStep vars entry to = IsStateStep vars entry.description entry.state to

-- ---- why nothing becomes of them

-- there is no number for a new entry, no room for its bytes, or no place in BootOrder
abbrev pub IsNewFault : Variables → List ℕ → EditFault → Type 0
IsNewFault vars bytes f =
    IsNumberFault vars None f
    ⊎ ((number : ℕ) × IsLowestFree (entry_of vars) number
    × (((f ≡ edit.OptionTooLong) × (data_max < length bytes)) ⊎ ((length bytes ≤ data_max) × IsOrderFault vars Last number f)))

-- there is no room for the bytes of one that is there
pub record IsReplaceFault (vars : Variables) (description : List ℕ) (entry : PresentEntry) (f : EditFault) : Type 0 where
  pub number : ℕ
  pub bytes : List ℕ
  pub here : IsDescribed vars description number bytes
  pub alone : (other : ℕ) → IsNumberOf vars description other → other ≡ number
  pub is : f ≡ edit.OptionTooLong
  pub long : data_max < length (wanted_bytes entry bytes)

-- its bytes are a load option with another description
pub record HasOtherDescription (bytes description : List ℕ) : Type 0 where
  pub other : List ℕ
  pub has : HasDescription bytes other
  pub differ : other ≢ description

-- why its bytes aren't an option of its own
abbrev pub IsOwnFault : List ℕ → List ℕ → EntryFault → Type 0
IsOwnFault bytes description Twice = ⊥
IsOwnFault bytes description (BadOption f) = IsFirstOptionFault bytes f
IsOwnFault bytes description OtherDescription = HasOtherDescription bytes description
IsOwnFault bytes description Ambiguous = ⊥
IsOwnFault bytes description (Edit f) = ⊥

-- why it isn't added or replaced
abbrev pub IsPlaceFault : Variables → List ℕ → PresentEntry → EntryFault → Type 0
IsPlaceFault vars description entry Twice = ⊥
IsPlaceFault vars description entry (BadOption f) = ⊥
IsPlaceFault vars description entry OtherDescription = ⊥
IsPlaceFault vars description entry Ambiguous = IsAmbiguous vars description
IsPlaceFault vars description entry (Edit f) =
    (IsUnknown vars description × IsNewFault vars (wanted_bytes entry entry.option.items) f) ⊎ IsReplaceFault vars description entry f

-- the first of the two
abbrev pub IsPresentFault : Variables → List ℕ → PresentEntry → EntryFault → Type 0
IsPresentFault vars description entry f =
    IsOwnFault entry.option.items description f
    ⊎ (HasDescription entry.option.items description × IsPlaceFault vars description entry f)

-- BootOrder or BootNext can't be read, out of which the entries would be taken
abbrev pub IsTakenOutFault : Variables → List ℕ → EditFault → Type 0
IsTakenOutFault vars [] f = ⊥
IsTakenOutFault vars (number ∷ numbers) f = IsRemoveFault vars (number ∷ numbers) f

abbrev pub IsAbsentFault : Variables → List ℕ → EntryFault → Type 0
IsAbsentFault vars description Twice = ⊥
IsAbsentFault vars description (BadOption f) = ⊥
IsAbsentFault vars description OtherDescription = ⊥
IsAbsentFault vars description Ambiguous = ⊥
IsAbsentFault vars description (Edit f) = (numbers : List ℕ) × AreThose (IsNumberOf vars description) numbers × IsTakenOutFault vars numbers f

abbrev pub IsStateFault : Variables → List ℕ → EntryState → EntryFault → Type 0
IsStateFault vars description Absent f = IsAbsentFault vars description f
IsStateFault vars description (Present entry) f = IsPresentFault vars description entry f

abbrev pub IsEntryFault : Variables → ProfileEntry → EntryFault → Type 0
IsEntryFault vars entry f = IsStateFault vars entry.description entry.state f
