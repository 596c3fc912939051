-- For private functions of the reader of sets: what is at the start of some bytes, and what is at fault there.
use Rattle.std.specs.Prelude.{◌≡◌, ◌⊎◌, ℕ, ◌+◌, ◌<◌, List, ◌++◌, map, length}
use Rattle.std.specs.List.{AllByRecursion}
use Rattle.std.specs.List.Sorted.{IsStrictlySortedBy}
use Rattle.uefi_vars.specs.declared.fault.SetFault.{SetFault}
use Rattle.uefi_vars.specs.declared.fault.SetFault.TheVariants as fault
use Rattle.uefi_vars.specs.Name.{IsName}
use Rattle.uefi_vars.specs.Vars.{name_cmp, IsData, IsVariable}
use Rattle.uefi_vars.specs.Set.{name_bytes, data_bytes, records_bytes}
use Rattle.uefi_vars.specs.Fault.{HasBadNameLength, HasCutName, HasBadCharacter, HasLowName, HasName, IsCutData, StatesBadLength}

-- the names of variables
abbrev pub names_of : List (List ℕ × List ℕ) → List (List ℕ)
names_of pairs = map (λ p. p.0) pairs

-- ---- a name

-- it is at the start of the bytes, before a rest
pub record SplitsName (bytes name rest : List ℕ) : Type 0 where
  pub is : IsName name
  pub parts : bytes ≡ name_bytes name ++ rest

-- its fault, whatever is before, in a record at this place
abbrev pub IsNameFault : List ℕ → ℕ → SetFault → Type 0
IsNameFault bytes place f =
    ((f ≡ fault.Truncated place) × HasCutName bytes)
    ⊎ ((f ≡ fault.BadName place) × (HasBadNameLength bytes ⊎ HasBadCharacter bytes))

-- ---- data

-- it is at the start of the bytes, before a rest
pub record SplitsData (bytes value rest : List ℕ) : Type 0 where
  pub is : IsData value
  pub parts : bytes ≡ data_bytes value ++ rest

-- the fault of data, in a record at this place
abbrev pub IsDataFault : List ℕ → ℕ → SetFault → Type 0
IsDataFault bytes place f =
    ((f ≡ fault.Truncated place) × ((length bytes < 4) ⊎ IsCutData bytes))
    ⊎ ((f ≡ fault.BadData place) × StatesBadLength bytes)

-- ---- records

-- those of these variables, whose names rise, and a rest
pub record HasRecords (bytes : List ℕ) (pairs : List (List ℕ × List ℕ)) (rest : List ℕ) : Type 0 where
  pub whole : AllByRecursion IsVariable pairs
  pub rising : IsStrictlySortedBy name_cmp (names_of pairs)
  pub parts : bytes ≡ records_bytes pairs ++ rest

-- the fault of the record at this place, after these names
abbrev pub IsRecordFault : List (List ℕ) → List ℕ → ℕ → SetFault → Type 0
IsRecordFault names rest place f =
    IsNameFault rest place f
    ⊎ (((f ≡ fault.NotRising place) × HasLowName names rest)
    ⊎ ((behind : List ℕ) × HasName names rest behind × IsDataFault behind place f))

-- whole records, of which the first is at start, and then one with the fault
pub record HasRecordsFault (bytes : List ℕ) (start : ℕ) (f : SetFault) : Type 0 where
  pub pairs : List (List ℕ × List ℕ)
  pub rest : List ℕ
  pub before : HasRecords bytes pairs rest
  pub here : IsRecordFault (names_of pairs) rest (start + length (records_bytes pairs)) f
