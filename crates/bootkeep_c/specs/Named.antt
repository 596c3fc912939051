-- What BootNext and BootOrder name, as C is told.
use Rattle.std.specs.Prelude.{◌≡◌, ℕ, List, [], ◌∷◌, ◌++◌, map, get_or, Option, Some, None}
use Rattle.uefi_text.specs.Bytes.{Each}
use Rattle.uefi_vars.specs.Vars.{Variables, entry_of}
use Rattle.uefi_vars.specs.Set.{SpellsSet}
use Rattle.uefi_vars.specs.Order.{HasOrder, HasNext}
use Rattle.bootkeep_c.specs.declared.entry.EntryState.{EntryState}
use Rattle.bootkeep_c.specs.declared.named.NamedEntry.{NamedEntry}
use Rattle.bootkeep_c.specs.Entries.{state_number, IsEntryState}

-- a number that is named, after the number of the variable that names it
abbrev pub Name : Type 0
Name = ℕ × ℕ

-- what BootNext names, if it is there, and what BootOrder names
abbrev pub next_names : Option ℕ → List Name
next_names None = []
next_names (Some number) = (0x10002, number) ∷ []

abbrev pub order_name : ℕ → Name
order_name number = (0x10001, number)

abbrev pub order_names : List ℕ → List Name
order_names order = map order_name order

-- this is told of a number that is named: with what a boot makes of its entry
pub record TellsNamed (entries : ℕ → Option (List ℕ)) (name : Name) (told : NamedEntry) : Type 0 where
  pub variable : told.variable ≡ name.0
  pub number : told.number ≡ name.1
  pub is : EntryState
  pub entry : IsEntryState entries name.1 is
  pub state : told.state ≡ state_number is

-- this is told of what BootNext names, and of what both name: BootNext's first
abbrev pub AreNextNamed : (ℕ → Option (List ℕ)) → Option ℕ → List NamedEntry → Type 0
AreNextNamed entries next told = Each (TellsNamed entries) (next_names next) told

abbrev pub AreNamed : (ℕ → Option (List ℕ)) → Option ℕ → List ℕ → List NamedEntry → Type 0
AreNamed entries next order told = Each (TellsNamed entries) (next_names next ++ order_names order) told

-- the bytes are a set, and this is told of what its BootNext and its BootOrder name
abbrev pub AreNamedIn : List ℕ → List NamedEntry → Type 0
AreNamedIn set told =
    (vars : Variables) × (next : Option ℕ) × (order : List ℕ) × SpellsSet set vars × HasNext vars next × HasOrder vars order
    × AreNamed (entry_of vars) next order told

-- For private functions: what is kept of entries by their numbers is what they are.
abbrev pub AreKnown : (ℕ → Option (List ℕ)) → List (Option EntryState) → Type 0
AreKnown entries known = (number : ℕ) (is : EntryState) → get_or known number None ≡ Some is → IsEntryState entries number is
