-- A new entry: its number, its place in the order, and what it is refused for.
use Rattle.std.specs.Prelude.{◌≡◌, ◌≢◌, ◌⊎◌, ℕ, ◌<◌, ◌≤◌, true, false, List, [], ◌∷◌, length, Option, Some, None}
use Rattle.uefi_option.specs.LoadOption.{OptionParts, SpellsOption}
use Rattle.uefi_option.specs.declared.fault.OptionFault.{OptionFault}
use Rattle.uefi_option.specs.Fault.{IsFirstFault as IsFirstOptionFault}
use Rattle.std.specs.FinMap.{get}
use Rattle.uefi_vars.specs.Free.{IsLowestFree}
use Rattle.uefi_vars.specs.Name.{order_text}
use Rattle.uefi_vars.specs.Order.{order_max, IsEntryNumber, HasOrder, HasBadOrder, stored_order}
use Rattle.uefi_vars.specs.Vars.{Variables, data_max, entry_of}
use Rattle.boot_requests.specs.Apply.{in_front}
use Rattle.boot_edits.specs.declared.addition.Addition.{Addition}
use Rattle.boot_edits.specs.declared.addition.Position.{Position}
use Rattle.boot_edits.specs.declared.addition.Position.TheVariants.{First, Last, NoOrder}
use Rattle.boot_edits.specs.declared.answer.EditAnswer.{EditAnswer}
use Rattle.boot_edits.specs.declared.answer.EditAnswer.TheVariants.{Done, Added, Present}
use Rattle.boot_edits.specs.declared.fault.EditFault.{EditFault}
use Rattle.boot_edits.specs.declared.fault.EditFault.TheVariants.{BadOption, OptionTooLong, Taken, NoFree, BadOrder, OrderTooLong}
use Rattle.boot_edits.specs.Orders.{with_last}
use Rattle.boot_edits.specs.Parts.{parts_of, Becomes, entries_with}

-- ---- an entry that is there already

-- the bytes are a load option with the description and the paths of this one
pub record IsSameOption (option : OptionParts) (bytes : List ℕ) : Type 0 where
  pub other : OptionParts
  pub spelled : SpellsOption bytes other
  pub description : other.description ≡ option.description
  pub paths : other.paths ≡ option.paths

-- the entry of this number is one
pub record IsSame (vars : Variables) (option : OptionParts) (number : ℕ) : Type 0 where
  pub is : IsEntryNumber number
  pub bytes : List ℕ
  pub stored : entry_of vars number ≡ Some bytes
  pub same : IsSameOption option bytes

-- and no entry of a lower number is
pub record IsLowestSame (vars : Variables) (option : OptionParts) (number : ℕ) : Type 0 where
  pub here : IsSame vars option number
  pub first : (lower : ℕ) → lower < number → IsSame vars option lower → ⊥

-- the entry is wanted once, and is there under this number
pub record IsPresent (vars : Variables) (addition : Addition) (number : ℕ) : Type 0 where
  pub option : OptionParts
  pub spelled : SpellsOption addition.option.now option
  pub once : addition.again ≡ false
  pub there : IsLowestSame vars option number

-- the entry is wanted whatever is there, or isn't there
pub record IsWanted (vars : Variables) (addition : Addition) : Type 0 where
  pub option : OptionParts
  pub spelled : SpellsOption addition.option.now option
  pub new : (addition.again ≡ true) ⊎ ((number : ℕ) → IsSame vars option number → ⊥)

-- ---- a new entry

-- it gets this number: the one that it is to have, if that is free, or the lowest free one
abbrev pub IsNewNumber : Variables → Option ℕ → ℕ → Type 0
IsNewNumber vars (Some entry) number = (number ≡ entry) × (entry_of vars entry ≡ None)
IsNewNumber vars None number = IsLowestFree (entry_of vars) number

-- the order with the number in front, or as its last one if it isn't there
abbrev pub placed : Position → ℕ → List ℕ → List ℕ
placed First number order = in_front (number ∷ []) order
placed Last number order = with_last order number
placed NoOrder number order = order

-- an order of the variables that gets a new number, and has room for it
pub record HasPlaced (vars : Variables) (position : Position) (number : ℕ) (new : List ℕ) : Type 0 where
  pub order : List ℕ
  pub old : HasOrder vars order
  pub is : new ≡ placed position number order
  pub fits : length new ≤ order_max

-- what is stored of it
abbrev pub StoresPlaced : Variables → Position → ℕ → Option (List ℕ) → Type 0
StoresPlaced vars position number stored = (new : List ℕ) × HasPlaced vars position number new × (stored ≡ stored_order new)

-- what is stored of the order then
abbrev pub IsPlaced : Variables → Position → ℕ → Option (List ℕ) → Type 0
IsPlaced vars First number stored = StoresPlaced vars First number stored
IsPlaced vars Last number stored = StoresPlaced vars Last number stored
IsPlaced vars NoOrder number stored = stored ≡ get vars order_text

-- the entry is stored under this number, and gets its place
pub record IsEntryAdded (vars : Variables) (addition : Addition) (number : ℕ) (to : Variables) : Type 0 where
  pub fits : length addition.option.now ≤ data_max
  pub order : Option (List ℕ)
  pub placed : IsPlaced vars addition.position number order
  pub becomes : Becomes vars
      (record (parts_of vars) { entries = entries_with number addition.option.now (entry_of vars); order = order }) to

-- it is new, and added so
pub record IsAdded (vars : Variables) (addition : Addition) (number : ℕ) (to : Variables) : Type 0 where
  pub wanted : IsWanted vars addition
  pub new : IsNewNumber vars addition.entry number
  pub added : IsEntryAdded vars addition number to

-- of the variables these become, and this is told
abbrev pub IsAdditionDone : Variables → Addition → Variables → EditAnswer → Type 0
IsAdditionDone vars addition to Done = ⊥
IsAdditionDone vars addition to (Added number) = IsAdded vars addition number to
IsAdditionDone vars addition to (Present number) = IsPresent vars addition number × (to ≡ vars)

-- ---- why it isn't added

-- it gets no number
abbrev pub IsNumberFault : Variables → Option ℕ → EditFault → Type 0
IsNumberFault vars (Some entry) f = (f ≡ Taken entry) × (entry_of vars entry ≢ None)
IsNumberFault vars None f = (f ≡ NoFree) × ((number : ℕ) → IsEntryNumber number → entry_of vars number ≢ None)

-- the order can't be read, or has no room
abbrev pub IsOrderFault : Variables → Position → ℕ → EditFault → Type 0
IsOrderFault vars position number f =
    ((f ≡ BadOrder) × HasBadOrder vars)
    ⊎ ((f ≡ OrderTooLong) × ((order : List ℕ) × HasOrder vars order × (order_max < length (placed position number order))))

-- if it is to get a place there
abbrev pub IsPlaceFault : Variables → Position → ℕ → EditFault → Type 0
IsPlaceFault vars First number f = IsOrderFault vars First number f
IsPlaceFault vars Last number f = IsOrderFault vars Last number f
IsPlaceFault vars NoOrder number f = ⊥

-- there is no room for it, or none in the order
abbrev pub IsRoomFaultAt : Variables → Addition → ℕ → EditFault → Type 0
IsRoomFaultAt vars addition number f =
    ((f ≡ OptionTooLong) × (data_max < length addition.option.now))
    ⊎ ((length addition.option.now ≤ data_max) × IsPlaceFault vars addition.position number f)

-- the same, for the number that it would get
pub record IsRoomFault (vars : Variables) (addition : Addition) (f : EditFault) : Type 0 where
  pub number : ℕ
  pub new : IsNewNumber vars addition.entry number
  pub is : IsRoomFaultAt vars addition number f

-- it is no load option, or it is one that is wanted
abbrev pub IsAdditionFault : Variables → Addition → EditFault → Type 0
IsAdditionFault vars addition f =
    ((fault : OptionFault) × (f ≡ BadOption fault) × IsFirstOptionFault addition.option.now fault)
    ⊎ (IsWanted vars addition × (IsNumberFault vars addition.entry f ⊎ IsRoomFault vars addition f))
