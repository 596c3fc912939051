-- The file of a record: a magic, and fields one after the other.
use Rattle.std.specs.Prelude.{◌≡◌, ◌≢◌, ◌⊎◌, ℕ, ◌<◌, ◌^◌, List, [], ◌∷◌, ◌++◌, length}
use Rattle.std.specs.List.{AllByRecursion, flat_map}
use Rattle.uefi_vars.specs.Set.{data_bytes}
use Rattle.uefi_vars.specs.Fault.{StatesLength}
use Rattle.change_records.specs.declared.fault.RecordFault.{RecordFault}
use Rattle.change_records.specs.declared.fault.RecordFault.TheVariants as fault

-- the four bytes at the start: BKH1
abbrev pub magic : List ℕ
magic = 0x42 ∷ 0x4B ∷ 0x48 ∷ 0x31 ∷ []

-- four bytes can state how long it is
abbrev pub IsShort : List ℕ → Type 0
IsShort field = length field < 2 ^ 32

-- each field as its length, in four bytes, and its bytes
abbrev pub fields_bytes : List (List ℕ) → List ℕ
fields_bytes fields = flat_map data_bytes fields

-- the bytes, all of them, are the magic and these fields
pub record HasFields (bytes : List ℕ) (fields : List (List ℕ)) : Type 0 where
  pub short : AllByRecursion IsShort fields
  pub parts : bytes ≡ magic ++ fields_bytes fields

-- ---- what has no fields

-- the magic isn't at the start
abbrev pub HasNoMagic : List ℕ → Type 0
HasNoMagic bytes = (rest : List ℕ) → bytes ≢ magic ++ rest

-- fewer bytes than they state
pub record StatesMore (rest : List ℕ) : Type 0 where
  pub len : ℕ
  pub behind : List ℕ
  pub stated : StatesLength rest len behind
  pub cut : length behind < len

-- no field is at the start: there are fewer than the four bytes of its length, or than it is to have
abbrev pub IsCut : List ℕ → Type 0
IsCut rest = (length rest < 4) ⊎ StatesMore rest

-- after the magic and whole fields there are bytes of one that is cut, which begins at this place
pub record HasCut (bytes : List ℕ) (place : ℕ) : Type 0 where
  pub fields : List (List ℕ)
  pub rest : List ℕ
  pub short : AllByRecursion IsShort fields
  pub some : rest ≢ []
  pub cut : IsCut rest
  pub parts : bytes ≡ (magic ++ fields_bytes fields) ++ rest
  pub at : place ≡ length (magic ++ fields_bytes fields)

-- The fault is that of bytes that aren't the magic and fields.
abbrev pub IsFileFault : List ℕ → RecordFault → Type 0
IsFileFault bytes fault.BadMagic = HasNoMagic bytes
IsFileFault bytes (fault.Truncated place) = HasCut bytes place
IsFileFault bytes fault.TooFewFields = ⊥
IsFileFault bytes fault.BadMachine = ⊥
IsFileFault bytes fault.BadTime = ⊥
IsFileFault bytes (fault.BadBefore f) = ⊥
IsFileFault bytes (fault.BadAfter f) = ⊥
IsFileFault bytes (fault.BadWord number) = ⊥
IsFileFault bytes fault.OutOfMemory = ⊥

-- ---- for private functions

-- the field is at the start of the bytes, and these are after it
pub record SplitsField (bytes field behind : List ℕ) : Type 0 where
  pub short : IsShort field
  pub parts : bytes ≡ data_bytes field ++ behind
