-- For private functions: what is kept of entries by their numbers.
use Rattle.std.specs.Prelude.{◌≡◌, ℕ, ◌==◌, ◌&&◌, ◌||◌, Bool, false, List, [], ◌∷◌, take, Option, Some, None, IfSome, is_some}
use Rattle.std.specs.List.{list_any}
use Rattle.std.specs.Ordering.{nat_cmp}
use Rattle.std.specs.BTreeMap.{get}
use Rattle.std.specs.BTreeSet.{BTreeSet, contains}
use Rattle.uefi_vars.specs.declared.by_number.ByNumber.{ByNumber}

-- whether the number is in the list
abbrev pub is_in : List ℕ → ℕ → Bool
is_in numbers number = list_any (λ other. other == number) numbers

-- whether the number is in the list more than once
abbrev pub is_repeated : List ℕ → ℕ → Bool
is_repeated [] number = false
is_repeated (first ∷ numbers) number = first == number && is_in numbers number || is_repeated numbers number

-- the set has exactly these numbers
pub record Tells (set : BTreeSet ℕ) (numbers : List ℕ) : Type 0 where
  pub tells : (number : ℕ) → contains nat_cmp set number ≡ is_in numbers number

-- the place of the number, if it has one: with what is kept there, if anything is
abbrev pub place_of : {T : Type 0} → ByNumber T → ℕ → Option (Option T)
place_of table number = get nat_cmp table.places number

-- what is kept at a place, if there is a place and anything is
abbrev pub kept_in : {T : Type 0} → Option (Option T) → Option T
kept_in None = None
kept_in (Some kept) = kept

-- what is kept under the number, if anything is
abbrev pub kept_at : {T : Type 0} → ByNumber T → ℕ → Option T
kept_at table number = kept_in (place_of table number)

-- what is kept under a number tells of it
abbrev pub EachTells : {T : Type 0} → (ℕ → T → Type 0) → ByNumber T → Type 0
EachTells Holds table = (number : ℕ) → IfSome (kept_at table number) (Holds number)

-- Each number that the order repeats has a place, and no other has one. What is kept is of those that are before this
-- one, and of each of them.
pub record HasMet {T : Type 0} (order : List ℕ) (place : ℕ) (table : ByNumber T) : Type 0 where
  pub places : (number : ℕ) → is_some (place_of table number) ≡ is_repeated order number
  pub kept : (number : ℕ) → is_some (kept_at table number) ≡ (is_repeated order number && is_in (take place order) number)
