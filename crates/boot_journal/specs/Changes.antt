-- Changes of single variables, made one after the other, and taken back.
use Rattle.std.specs.Prelude.{◌≡◌, ℕ, Bool, false, List, map, reverse, take, None, if◌then◌else◌}
use Rattle.std.specs.List.{AllByRecursion, list_any}
use Rattle.std.specs.FinMap.{get}
use Rattle.uefi_vars.specs.Name.{next_text}
use Rattle.uefi_vars.specs.Vars.{Variables}
use Rattle.uefi_vars.specs.NameChanges.{after_each}
use Rattle.uefi_vars.specs.BootChange.{ChangeParts, same_name, new_data}

-- the variables once the changes are made, the first of them first
abbrev pub made : List ChangeParts → Variables → Variables
made changes vars = after_each vars (new_data changes)

-- the change that takes a change back
abbrev pub undone : ChangeParts → ChangeParts
undone change = record { name = change.name; before = change.after; after = change.before }

-- the changes that take changes back, the last of them first
abbrev pub taken_back : List ChangeParts → List ChangeParts
taken_back changes = reverse (map undone changes)

-- a change of BootNext takes it out, whatever it is to be
abbrev pub spent : ChangeParts → ChangeParts
spent change = record {
  name = change.name;
  before = change.before;
  after = if same_name change.name next_text then None else change.after;
}

-- whether one of the changes is of BootNext
abbrev pub is_of_next : List ChangeParts → Bool
is_of_next changes = list_any (λ change. same_name change.name next_text) changes

-- each change tells what is there before all of them
abbrev pub TellWhatIsThere : Variables → List ChangeParts → Type 0
TellWhatIsThere vars changes = AllByRecursion (λ change. change.before ≡ get vars change.name) changes

-- no change is of this name
abbrev pub LeaveAlone : List ℕ → List ChangeParts → Type 0
LeaveAlone name changes = AllByRecursion (λ change. same_name name change.name ≡ false) changes

-- the variables are those once some of the changes are made, from the first on
abbrev pub IsFront : List ChangeParts → Variables → Variables → Type 0
IsFront changes before now = (count : ℕ) × (now ≡ made (take count changes) before)
