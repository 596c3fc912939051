-- The first fault of the bytes of a set file.
use Rattle.std.specs.Prelude.{◌≡◌, ◌≢◌, ◌⊎◌, ℕ, ◌^◌, ◌<◌, ◌≤◌, List, ◌∷◌, ◌++◌, map, length}
use Rattle.std.specs.List.{AllByRecursion}
use Rattle.std.specs.List.Sorted.{IsStrictlySortedBy}
use Rattle.std.specs.Int.{w32, to_le_bytes}
use Rattle.std.specs.declared.cmp.Ordering.TheVariants.{Less}
use Rattle.uefi_vars.specs.declared.fault.SetFault.{SetFault}
use Rattle.uefi_vars.specs.declared.fault.SetFault.TheVariants as fault
use Rattle.uefi_vars.specs.Name.{IsNameByte, name_max, IsName}
use Rattle.uefi_vars.specs.Vars.{name_cmp, data_max, IsVariable}
use Rattle.uefi_vars.specs.Set.{magic, name_bytes, records_bytes}

-- the magic isn't at the start
abbrev pub HasNoMagic : List ℕ → Type 0
HasNoMagic input = (rest : List ℕ) → input ≢ magic ++ rest

-- The magic, whole records of rising names, and a rest, in which something is to be. The place is that of the rest.
pub record HasRest (input : List ℕ) (place : ℕ) (names : List (List ℕ)) (rest : List ℕ) : Type 0 where
  pub variables : List (List ℕ × List ℕ)
  pub whole : AllByRecursion IsVariable variables
  pub named : names ≡ map (λ v. v.0) variables
  pub rising : IsStrictlySortedBy name_cmp names
  pub parts : input ≡ (magic ++ records_bytes variables) ++ rest
  pub at : place ≡ length (magic ++ records_bytes variables)

-- the name is above each of these
abbrev pub IsAbove : List (List ℕ) → List ℕ → Type 0
IsAbove names name = AllByRecursion (λ before. name_cmp before name ≡ Less) names

-- ---- what may be at fault in a record, after these names

-- a length that no name has
pub record HasBadNameLength (rest : List ℕ) : Type 0 where
  pub len : ℕ
  pub behind : List ℕ
  pub bad : (len ≡ 0) ⊎ (name_max < len)
  pub parts : rest ≡ len ∷ behind

-- fewer characters than the name is to have
pub record HasCutName (rest : List ℕ) : Type 0 where
  pub len : ℕ
  pub behind : List ℕ
  pub good : (0 < len) × (len ≤ name_max)
  pub parts : rest ≡ len ∷ behind
  pub cut : length behind < len

-- a character that no name has
pub record HasBadCharacter (rest : List ℕ) : Type 0 where
  pub name : List ℕ
  pub behind : List ℕ
  pub good : (0 < length name) × (length name ≤ name_max)
  pub bad : ¬ AllByRecursion IsNameByte name
  pub parts : rest ≡ name_bytes name ++ behind

-- a name that isn't above those before
pub record HasLowName (names : List (List ℕ)) (rest : List ℕ) : Type 0 where
  pub name : List ℕ
  pub behind : List ℕ
  pub is : IsName name
  pub low : ¬ IsAbove names name
  pub parts : rest ≡ name_bytes name ++ behind

-- a name that is, and these bytes after it
pub record HasName (names : List (List ℕ)) (rest behind : List ℕ) : Type 0 where
  pub name : List ℕ
  pub is : IsName name
  pub above : IsAbove names name
  pub parts : rest ≡ name_bytes name ++ behind

-- ---- what may be at fault in data, after such a name

-- the bytes state this length, and go on with the rest
pub record StatesLength (bytes : List ℕ) (len : ℕ) (rest : List ℕ) : Type 0 where
  pub four_bytes : len < 2 ^ 32
  pub parts : bytes ≡ to_le_bytes w32 len ++ rest

-- fewer bytes follow than they state
pub record IsCutData (bytes : List ℕ) : Type 0 where
  pub len : ℕ
  pub rest : List ℕ
  pub stated : StatesLength bytes len rest
  pub good : (0 < len) × (len ≤ data_max)
  pub cut : length rest < len

-- they state a length that no data has
pub record StatesBadLength (bytes : List ℕ) : Type 0 where
  pub len : ℕ
  pub rest : List ℕ
  pub stated : StatesLength bytes len rest
  pub bad : (len ≡ 0) ⊎ (data_max < len)

-- such a name, and one of these after it
pub record HasNameWith (names : List (List ℕ)) (rest : List ℕ) (P : List ℕ → Type 0) : Type 0 where
  pub behind : List ℕ
  pub name : HasName names rest behind
  pub here : P behind

-- ---- the first fault

-- one of these at the rest
pub record HasRestWith (input : List ℕ) (place : ℕ) (P : List (List ℕ) → List ℕ → Type 0) : Type 0 where
  pub names : List (List ℕ)
  pub rest : List ℕ
  pub before : HasRest input place names rest
  pub here : P names rest

-- The fault is the first of the input, by cases.
abbrev pub IsFirstFault : List ℕ → SetFault → Type 0
IsFirstFault input (fault.BadMagic place) = HasNoMagic input × (place ≡ 0)
IsFirstFault input (fault.Truncated place) =
    HasRestWith input place (λ names rest. HasCutName rest ⊎ HasNameWith names rest (λ bytes. (length bytes < 4) ⊎ IsCutData bytes))
IsFirstFault input (fault.BadName place) =
    HasRestWith input place (λ names rest. HasBadNameLength rest ⊎ HasBadCharacter rest)
IsFirstFault input (fault.BadData place) =
    HasRestWith input place (λ names rest. HasNameWith names rest StatesBadLength)
IsFirstFault input (fault.NotRising place) = HasRestWith input place HasLowName
IsFirstFault input fault.OutOfMemory = ⊥
