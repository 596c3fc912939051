-- Lists of numbers that name entries: what may be at fault with a number, and the first one at fault.
use Rattle.std.specs.Prelude.{◌≡◌, ◌≢◌, ◌⊎◌, ℕ, ◌<◌, Bool, true, false, List, length, take, slice_index, None}
use Rattle.uefi_vars.specs.Plan.{HasOption}
use Rattle.uefi_vars.specs.Vars.{Variables, entry_of}
use Rattle.uefi_option.specs.LoadOption.{OptionParts}
use Rattle.boot_requests.specs.Apply.{is_in}
use Rattle.boot_edits.specs.declared.fault.EditFault.{EditFault}
use Rattle.boot_edits.specs.declared.fault.EditFault.TheVariants.{Twice, Missing, Stale, NoOption}

-- ---- what a number by itself may be refused for

-- there is no such entry
abbrev pub IsMissing : Variables → ℕ → EditFault → Type 0
IsMissing vars number f = (f ≡ Missing number) × (entry_of vars number ≡ None)

-- the same of a number for an order, if no stale one is to be in it
abbrev pub IsStale : Bool → Variables → ℕ → EditFault → Type 0
IsStale true vars number f = ⊥
IsStale false vars number f = (f ≡ Stale number) × (entry_of vars number ≡ None)

-- there is no such entry, or it is no load option
abbrev pub IsNoOption : Variables → ℕ → EditFault → Type 0
IsNoOption vars number f =
    IsMissing vars number f
    ⊎ ((f ≡ NoOption number) × (entry_of vars number ≢ None)
    × ((option : OptionParts) → HasOption (entry_of vars) number option → ⊥))

-- ---- the numbers of a list

-- the number at this place has this fault: it is in the list before, or else it is refused by itself
abbrev pub IsFaultAt : (ℕ → EditFault → Type 0) → List ℕ → ℕ → EditFault → Type 0
IsFaultAt IsRefused numbers place f =
    let number = slice_index numbers place in
    ((is_in (take place numbers) number ≡ true) × (f ≡ Twice number))
    ⊎ ((is_in (take place numbers) number ≡ false) × IsRefused number f)

-- no number has a fault
abbrev pub AreFine : (ℕ → EditFault → Type 0) → List ℕ → Type 0
AreFine IsRefused numbers = (place : ℕ) → place < length numbers → (f : EditFault) → IsFaultAt IsRefused numbers place f → ⊥

-- the first number with a fault has this one
pub record IsFirstFault (IsRefused : ℕ → EditFault → Type 0) (numbers : List ℕ) (f : EditFault) : Type 0 where
  pub place : ℕ
  pub within : place < length numbers
  pub here : IsFaultAt IsRefused numbers place f
  pub first : (lower : ℕ) → lower < place → (g : EditFault) → IsFaultAt IsRefused numbers lower g → ⊥
