-- Which variables a keeper takes, as which state they open, and the first fault of others.
use Rattle.std.specs.Prelude.{◌≡◌, ◌≢◌, ◌⊎◌, ℕ, ◌^◌, ◌<◌, List, [], ◌∷◌, ◌++◌, length, map, min, Some}
use Rattle.std.specs.List.{AllByRecursion}
use Rattle.std.specs.Int.{w32, to_le_bytes}
use Rattle.std.specs.FinMap.{get}
use Rattle.uefi_vars.specs.Vars.{Variables}
use Rattle.uefi_vars.specs.Order.{HasBadOrder, HasBadNext}
use Rattle.uefi_vars.specs.NameChanges.{with_data}
use Rattle.boot_requests.specs.declared.outcome.Code.{Code}
use Rattle.boot_requests.specs.declared.outcome.Code.TheVariants.{NoFree}
use Rattle.boot_requests.specs.declared.outcome.Outcome.{Outcome}
use Rattle.boot_requests.specs.declared.fault.OpenFault.{OpenFault}
use Rattle.boot_requests.specs.declared.fault.OpenFault.TheVariants as fault
use Rattle.boot_requests.specs.Limits.{kept_min}
use Rattle.boot_requests.specs.Outcome.{without_entry, code_byte}
use Rattle.uefi_vars.specs.Name.{keep_text}
use Rattle.boot_requests.specs.State.{State, IsState, IsImage, IsMark, stored_mark}

-- ---- version 1 of BootKeepState

-- its bytes: the version, the next number in four bytes, how many outcomes are kept, and a byte for the code of each
abbrev pub first_mark_bytes : ℕ → List Code → List ℕ
first_mark_bytes next_number codes = (1 ∷ []) ++ to_le_bytes w32 next_number ++ (length codes ∷ map code_byte codes)

-- a code that version 1 has
abbrev pub IsFirstCode : Code → Type 0
IsFirstCode code = code ≢ NoFree

-- the next number is one of four bytes, and those of the last 16 requests before it are kept
pub record IsFirstMark (next_number : ℕ) (codes : List Code) : Type 0 where
  pub some : 0 < next_number
  pub four_bytes : next_number < 2 ^ 32
  pub len : length codes ≡ min kept_min next_number
  pub known : AllByRecursion IsFirstCode codes

-- ---- the mark of variables

-- the variables have this next number, and these outcomes are kept, by version 2
pub record HasSecondMark (vars : Variables) (next_number : ℕ) (kept : List Outcome) : Type 0 where
  pub is : IsMark next_number kept
  pub stored : get vars keep_text ≡ stored_mark next_number kept

-- the same by version 1, whose outcomes tell no entry
pub record HasFirstMark (vars : Variables) (next_number : ℕ) (kept : List Outcome) : Type 0 where
  pub codes : List Code
  pub is : IsFirstMark next_number codes
  pub kept_is : kept ≡ map without_entry codes
  pub stored : get vars keep_text ≡ Some (first_mark_bytes next_number codes)

-- the same by either
abbrev pub HasMark : Variables → ℕ → List Outcome → Type 0
HasMark vars next_number kept = HasSecondMark vars next_number kept ⊎ HasFirstMark vars next_number kept

-- BootKeepState is stored, and no next number with its outcomes has these bytes
abbrev pub HasBadMark : Variables → Type 0
HasBadMark vars = (next_number : ℕ) (kept : List Outcome) → HasMark vars next_number kept → ⊥

-- ---- opening

-- the variables with the mark of this state, by version 2
abbrev pub with_second_mark : Variables → State → Variables
with_second_mark vars m = with_data vars keep_text (stored_mark m.next_number m.kept)

-- the variables open as this state: its mark is stored, by either version, and with the mark by version 2 they are its
-- image
pub record OpensAs (vars : Variables) (m : State) : Type 0 where
  pub is : IsState m
  pub mark : HasMark vars m.next_number m.kept
  pub image : IsImage m (with_second_mark vars m)

-- The fault is the first of the variables, by cases.
abbrev pub IsOpenFault : Variables → OpenFault → Type 0
IsOpenFault vars fault.BadOrder = HasBadOrder vars
IsOpenFault vars fault.BadNext = (¬ HasBadOrder vars) × HasBadNext vars
IsOpenFault vars fault.BadState = (¬ HasBadOrder vars) × (¬ HasBadNext vars) × HasBadMark vars
IsOpenFault vars fault.OutOfMemory = ⊥
