-- How variables, and changes of variables, are held: in the order of their names.
use Rattle.std.specs.Prelude.{◌≡◌, ◌≢◌, ℕ, suc, ◌<◌, ◌≤◌, T, not, List, map, length, take, drop, slice_get, IsSomeAnd, ⊤}
use Rattle.std.specs.List.{AllByRecursion}
use Rattle.std.specs.Ordering.{eq_by_cmp}
use Rattle.std.specs.declared.cmp.Ordering.TheVariants.{Less}
use Rattle.std.specs.FinMap.{is_sorted, from_sorted}
use Rattle.std.specs.FinMap.Entries.{find, where_key}
use Rattle.uefi_vars.specs.declared.named.Named.{Named}
use Rattle.uefi_vars.specs.declared.named.Place.{Place}
use Rattle.uefi_vars.specs.declared.named.Place.TheVariants.{Taken, Free}
use Rattle.uefi_vars.specs.Vars.{Variables, name_cmp, IsVariable}

-- a name with what is kept under it, as a pair
abbrev pub pair_of : {X : Type 0} → Named X → List ℕ × X
pair_of item = (item.name, item.kept)

abbrev pub pairs_of : {X : Type 0} → List (Named X) → List (List ℕ × X)
pairs_of items = map pair_of items

-- names that rise strictly
abbrev pub IsRising : {X : Type 0} → List (List ℕ × X) → Type 0
IsRising pairs = T (is_sorted name_cmp pairs)

-- names that rise strictly, and variables that may be in a set
pub record AreVariables (pairs : List (List ℕ × List ℕ)) : Type 0 where
  pub rising : IsRising pairs
  pub each : AllByRecursion IsVariable pairs

-- the map that they are
abbrev pub vars_of : List (Named (List ℕ)) → Variables
vars_of variables = from_sorted (pairs_of variables)

-- the pairs of other names
abbrev pub without : List ℕ → List (List ℕ × List ℕ) → List (List ℕ × List ℕ)
without name pairs = where_key name_cmp (λ other. not (eq_by_cmp name_cmp name other)) pairs

-- the names before this place are below the name
abbrev pub AreBelow : {X : Type 0} → List (List ℕ × X) → List ℕ → ℕ → Type 0
AreBelow pairs name place = AllByRecursion (λ p. name_cmp p.0 name ≡ Less) (take place pairs)

-- those from this place on are above it
abbrev pub AreAbove : {X : Type 0} → List (List ℕ × X) → List ℕ → ℕ → Type 0
AreAbove pairs name place = AllByRecursion (λ p. name_cmp name p.0 ≡ Less) (drop place pairs)

-- the pair at this place has the name
pub record IsAt {X : Type 0} (pairs : List (List ℕ × X)) (name : List ℕ) (place : ℕ) : Type 0 where
  pub within : place < length pairs
  pub named : IsSomeAnd (slice_get pairs place) (λ p. p.0 ≡ name)
  pub below : AreBelow pairs name place
  pub above : AreAbove pairs name (suc place)

-- no pair has the name, which would go to this place
pub record IsGap {X : Type 0} (pairs : List (List ℕ × X)) (name : List ℕ) (place : ℕ) : Type 0 where
  pub within : place ≤ length pairs
  pub below : AreBelow pairs name place
  pub above : AreAbove pairs name place

-- what is kept under the name goes here
abbrev pub IsPlace : {X : Type 0} → List (List ℕ × X) → List ℕ → Place → Type 0
IsPlace pairs name (Taken place) = IsAt pairs name place
IsPlace pairs name (Free place held) = IsGap pairs name place × (held ≡ name)

-- a new name has room, in a list of this length and this capacity
abbrev pub HasRoom : ℕ → ℕ → Place → Type 0
HasRoom len capacity (Taken place) = ⊤
HasRoom len capacity (Free place held) = len < capacity

-- under this name, and under each name above it, the second of these lists keeps what the first one does
abbrev pub FindsAllFrom : {X : Type 0} → List ℕ → List (List ℕ × X) → List (List ℕ × X) → Type 0
FindsAllFrom name pairs left = (other : List ℕ) → name_cmp other name ≢ Less → find name_cmp other left ≡ find name_cmp other pairs
