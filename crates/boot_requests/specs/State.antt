-- The state of a machine's boot entries, and the variables that stand for it (UEFI 2.10, 3.3).
use Rattle.std.specs.Prelude.{◌≡◌, ◌⊎◌, ℕ, ◌^◌, ◌<◌, ◌≤◌, ◌==◌, if◌then◌else◌, List, [], ◌∷◌, ◌++◌, length, min, Option, Some, None, IfSome}
use Rattle.std.specs.Ordering.{nat_cmp}
use Rattle.std.specs.Int.{w32, to_le_bytes}
use Rattle.std.specs.List.{AllByRecursion, flat_map}
use Rattle.std.specs.FinMap.{FinMap, get}
use Rattle.uefi_vars.specs.Name.{entry_text, order_text, next_text, keep_text}
use Rattle.uefi_vars.specs.Vars.{Variables, IsData, IsVariable, entry_of}
use Rattle.uefi_vars.specs.Order.{IsEntryNumber, IsOrder, stored_order, stored_next}
use Rattle.boot_requests.specs.declared.outcome.Outcome.{Outcome}
use Rattle.boot_requests.specs.Limits.{kept_min, kept_max}
use Rattle.boot_requests.specs.Outcome.{IsOutcome, outcome_bytes}

-- The entries by their numbers, BootOrder, BootNext, how many requests were applied, which is the next number, the
-- outcomes of the last ones, oldest first, and all other variables by their names.
pub record State : Type 0 where
  pub entries : FinMap nat_cmp (List ℕ)
  pub order : List ℕ
  pub boot_next : Option ℕ
  pub next_number : ℕ
  pub kept : List Outcome
  pub others : Variables

-- ---- the variable BootKeepState

-- its bytes: version 2, the next number in four bytes, how many outcomes are kept, and four bytes for each of these
abbrev pub mark_bytes : ℕ → List Outcome → List ℕ
mark_bytes next_number kept = (2 ∷ []) ++ to_le_bytes w32 next_number ++ (length kept ∷ flat_map outcome_bytes kept)

-- what is stored of them: nothing if no request was applied
abbrev pub stored_mark : ℕ → List Outcome → Option (List ℕ)
stored_mark next_number kept = if next_number == 0 then None else Some (mark_bytes next_number kept)

-- The next number is one of four bytes, and of the requests before it the last outcomes are kept: those of the last
-- `kept_max`, or of fewer, but of `kept_min` at least.
pub record IsMark (next_number : ℕ) (kept : List Outcome) : Type 0 where
  pub four_bytes : next_number < 2 ^ 32
  pub least : min kept_min next_number ≤ length kept
  pub most : length kept ≤ min kept_max next_number
  pub outcomes : AllByRecursion IsOutcome kept

-- a next number, with the outcomes that are kept before it
pub record MarkParts : Type 0 where
  pub next_number : ℕ
  pub kept : List Outcome

-- ---- names

abbrev pub IsEntryName : List ℕ → Type 0
IsEntryName name = (number : ℕ) × IsEntryNumber number × (name ≡ entry_text number)

-- the names of the variables that requests and boots change
abbrev pub IsBootName : List ℕ → Type 0
IsBootName name = IsEntryName name ⊎ ((name ≡ order_text) ⊎ ((name ≡ next_text) ⊎ (name ≡ keep_text)))

-- ---- states and their variables

-- what is stored under a number is an entry's data, and what is stored under another name is another variable
pub record IsState (m : State) : Type 0 where
  pub entries : (number : ℕ) → IfSome (get m.entries number) (λ bytes. IsEntryNumber number × IsData bytes)
  pub order : IsOrder m.order
  pub next : IfSome m.boot_next IsEntryNumber
  pub mark : IsMark m.next_number m.kept
  pub others : (name : List ℕ) → IfSome (get m.others name) (λ bytes. IsVariable (name, bytes) × (¬ IsBootName name))

-- the variables stand for the state, name by name
pub record IsImage (m : State) (vars : Variables) : Type 0 where
  pub entry : (number : ℕ) → IsEntryNumber number → entry_of vars number ≡ get m.entries number
  pub order : get vars order_text ≡ stored_order m.order
  pub next : get vars next_text ≡ stored_next m.boot_next
  pub mark : get vars keep_text ≡ stored_mark m.next_number m.kept
  pub other : (name : List ℕ) → ¬ IsBootName name → get vars name ≡ get m.others name
