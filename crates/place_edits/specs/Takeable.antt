-- What firmware takes of variables that are wanted, as a machine keeps them, with attributes: no entry that would have to be
-- stored and is no load option.
use Rattle.std.specs.Prelude.{◌≡◌, ◌≢◌, ◌⊎◌, ℕ, List, [], drop, Some, None, Contains}
use Rattle.std.specs.List.{AllByRecursion}
use Rattle.std.specs.FinMap.{get}
use Rattle.uefi_option.specs.LoadOption.{OptionParts, SpellsOption}
use Rattle.uefi_vars.specs.Attributes.{attributes_len}
use Rattle.uefi_vars.specs.Name.{entry_text, order_text, next_text}
use Rattle.uefi_vars.specs.Vars.{Variables, entry_of}
use Rattle.place_edits.specs.declared.takeable.Takeable.{Takeable}

-- the bytes are no load option
abbrev pub IsNoOption : List ℕ → Type 0
IsNoOption bytes = (option : OptionParts) → SpellsOption bytes option → ⊥

-- the entry is wanted, isn't there so now, and is no load option
abbrev pub IsRefused : Variables → Variables → ℕ → Type 0
IsRefused there wanted entry =
    (value : List ℕ) × (entry_of wanted entry ≡ Some value) × (entry_of there entry ≢ Some value) × IsNoOption (drop attributes_len value)

-- each variable is as it was, or it is this entry, and gone
abbrev pub IsOut : ℕ → Variables → Variables → Type 0
IsOut entry old new = (name : List ℕ) → (get new name ≡ get old name) ⊎ ((name ≡ entry_text entry) × (get new name ≡ None))

-- it is the name of one of these entries
abbrev pub IsNamed : List ℕ → List ℕ → Type 0
IsNamed entries name = (entry : ℕ) × Contains entries entry × (name ≡ entry_text entry)

-- each variable is as it was, or it is one of these entries, and gone
abbrev pub AreOut : List ℕ → Variables → Variables → Type 0
AreOut entries old new = (name : List ℕ) → (get new name ≡ get old name) ⊎ (IsNamed entries name × (get new name ≡ None))

-- each variable but the one of this name is as it was
abbrev pub IsChangedAt : List ℕ → Variables → Variables → Type 0
IsChangedAt changed old new = (name : List ℕ) → (name ≡ changed) ⊎ (get new name ≡ get old name)

-- there are some of these entries, and it is the name of BootOrder or of BootNext, which lose their numbers
abbrev pub IsNumbered : List ℕ → List ℕ → Type 0
IsNumbered entries name = (entries ≢ []) × ((name ≡ order_text) ⊎ (name ≡ next_text))

-- Each variable is as it was, or it is one of these entries, and gone. If there are any, it may also be BootOrder or BootNext.
abbrev pub IsWithout : List ℕ → Variables → Variables → Type 0
IsWithout entries old new = (name : List ℕ) →
    (get new name ≡ get old name) ⊎ ((IsNamed entries name × (get new name ≡ None)) ⊎ IsNumbered entries name)

-- what is taken of what is wanted: all but entries that firmware refuses
pub record IsTaken (there wanted : Variables) (taken : Takeable) : Type 0 where
  pub refused : AllByRecursion (IsRefused there wanted) taken.missing.items
  pub rest : IsWithout taken.missing.items wanted taken.vars
