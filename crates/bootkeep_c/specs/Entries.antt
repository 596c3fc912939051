-- Numbers that are told of a set: a free one, and what a boot would make of an entry.
use Rattle.std.specs.Prelude.{◌≡◌, ◌≢◌, ℕ, List, Option, Some, None}
use Rattle.uefi_option.specs.LoadOption.{OptionParts, SpellsOption}
use Rattle.uefi_option.specs.Attributes.{IsActive, category_of, category_boot, IsNormal}
use Rattle.uefi_vars.specs.Vars.{Variables, entry_of}
use Rattle.uefi_vars.specs.Set.{SpellsSet}
use Rattle.uefi_vars.specs.Free.{IsLowestFreeIfAny}
use Rattle.uefi_vars.specs.Plan.{HasOption}
use Rattle.bootkeep_c.specs.declared.entry.EntryState.{EntryState}
use Rattle.bootkeep_c.specs.declared.entry.EntryState.TheVariants as state
use Rattle.bootkeep_c.specs.Plans.{number_or_none}

-- this is the lowest number under which the set has no entry, or what stands for none
abbrev pub IsFreeIn : List ℕ → ℕ → Type 0
IsFreeIn set told =
    (vars : Variables) × (free : Option ℕ) × SpellsSet set vars × IsLowestFreeIfAny (entry_of vars) free × (told ≡ number_or_none free)

-- ---- what a boot makes of an entry that BootOrder names

abbrev pub state_number : EntryState → ℕ
state_number state.Normal = 0
state_number state.Absent = 1
state_number state.Undecodable = 2
state_number state.Inactive = 3
state_number state.OtherCategory = 4

-- the same of an option of these attributes: whether it is active is looked at first
abbrev pub IsStateOf : ℕ → EntryState → Type 0
IsStateOf attributes state.Normal = IsNormal attributes
IsStateOf attributes state.Absent = ⊥
IsStateOf attributes state.Undecodable = ⊥
IsStateOf attributes state.Inactive = ¬ IsActive attributes
IsStateOf attributes state.OtherCategory = IsActive attributes × (category_of attributes ≢ category_boot)

-- the entry has an option, of attributes that make it this
abbrev pub HasState : (ℕ → Option (List ℕ)) → ℕ → EntryState → Type 0
HasState entries number is = (option : OptionParts) × HasOption entries number option × IsStateOf option.attributes is

-- what is stored under the number, if anything, is this
abbrev pub IsEntryState : (ℕ → Option (List ℕ)) → ℕ → EntryState → Type 0
IsEntryState entries number state.Absent = entries number ≡ None
IsEntryState entries number state.Undecodable =
    (bytes : List ℕ) × (entries number ≡ Some bytes) × ((option : OptionParts) → SpellsOption bytes option → ⊥)
IsEntryState entries number state.Normal = HasState entries number state.Normal
IsEntryState entries number state.Inactive = HasState entries number state.Inactive
IsEntryState entries number state.OtherCategory = HasState entries number state.OtherCategory

-- this is the number of what the entry of the set is
abbrev pub IsStateIn : List ℕ → ℕ → ℕ → Type 0
IsStateIn set number told =
    (vars : Variables) × (is : EntryState) × SpellsSet set vars × IsEntryState (entry_of vars) number is × (told ≡ state_number is)
