-- An emulator's variable file, as edk2 writes it: a firmware volume, in it a store of variables, and perhaps more after
-- the volume. Numbers are little-endian, and places are counted from the file's first byte.
use Rattle.std.specs.Prelude.{◌≡◌, ◌≢◌, ◌⊎◌, ℕ, ◌+◌, ◌-◌, ◌%◌, ◌≤◌, List, [], ◌∷◌, length, map, take, drop, codes}
use Rattle.std.specs.Int.{w16, w32, w64, from_le_bytes}
use Rattle.var_stores.specs.declared.fault.StoreFault.{StoreFault}
use Rattle.var_stores.specs.declared.fault.StoreFault.TheVariants as fault
use Rattle.var_stores.specs.declared.store.VariableStore.{VariableStore}
use Rattle.var_stores.specs.Record.{record_parts, RecordParts, HasRecords, HasCutRecord}

-- as many bytes from this place on
abbrev pub bytes_at : List ℕ → ℕ → ℕ → List ℕ
bytes_at file place len = take len (drop place file)

-- ---- the volume's header

-- fff12b8d-7696-4c8b-a985-2747075b4f50, that of a volume of variables
abbrev pub volume_guid : List ℕ
volume_guid = 0x8D ∷ 0x2B ∷ 0xF1 ∷ 0xFF ∷ 0x96 ∷ 0x76 ∷ 0x8B ∷ 0x4C ∷ 0xA9 ∷ 0x85 ∷ 0x27 ∷ 0x47 ∷ 0x07 ∷ 0x5B ∷ 0x4F ∷ 0x50 ∷ []

-- the signature of a firmware volume
abbrev pub volume_signature : List ℕ
volume_signature = codes "_FVH"

-- the least length of a header
abbrev pub header_min : ℕ
header_min = 56

abbrev pub volume_len : List ℕ → ℕ
volume_len file = from_le_bytes w64 (bytes_at file 32 8)

abbrev pub header_size : List ℕ → ℕ
header_size file = from_le_bytes w16 (bytes_at file 48 2)

-- the file begins with a volume of variables, of revision 2
pub record IsVolume (file : List ℕ) : Type 0 where
  pub long : header_min ≤ length file
  pub guid : bytes_at file 16 16 ≡ volume_guid
  pub signature : bytes_at file 40 4 ≡ volume_signature
  pub revision : bytes_at file 55 1 ≡ 2 ∷ []

-- the sum of numbers of two bytes, as one of two bytes
abbrev pub word_sum : List ℕ → ℕ
word_sum (low ∷ high ∷ rest) = (from_le_bytes w16 (low ∷ high ∷ []) + word_sum rest) % 65536
word_sum _ = 0

-- the header's length is whole, its numbers sum to 0, and the volume ends in the file
pub record HasGoodHeader (file : List ℕ) : Type 0 where
  pub least : header_min ≤ header_size file
  pub even : header_size file % 2 ≡ 0
  pub within : header_size file ≤ length file
  pub sum : word_sum (take (header_size file) file) ≡ 0
  pub volume : volume_len file ≤ length file

-- ---- the store's header, right after the volume's

-- aaf32c78-947b-439a-a180-2e144ec37792, that of a store whose records have times
abbrev pub store_guid : List ℕ
store_guid = 0x78 ∷ 0x2C ∷ 0xF3 ∷ 0xAA ∷ 0x7B ∷ 0x94 ∷ 0x9A ∷ 0x43 ∷ 0xA1 ∷ 0x80 ∷ 0x2E ∷ 0x14 ∷ 0x4E ∷ 0xC3 ∷ 0x77 ∷ 0x92 ∷ []

-- ddcf3616-3275-4164-98b6-fe85707ffe7d, that of a store whose records have none
abbrev pub plain_store_guid : List ℕ
plain_store_guid = 0x16 ∷ 0x36 ∷ 0xCF ∷ 0xDD ∷ 0x75 ∷ 0x32 ∷ 0x64 ∷ 0x41 ∷ 0x98 ∷ 0xB6 ∷ 0xFE ∷ 0x85 ∷ 0x70 ∷ 0x7F ∷ 0xFE ∷ 0x7D ∷ []

-- the length of a store's header
abbrev pub store_header_len : ℕ
store_header_len = 28

abbrev pub store_size : List ℕ → ℕ
store_size file = from_le_bytes w32 (bytes_at file (header_size file + 16) 4)

-- the volume has room for a store's header
abbrev pub HasStoreHeader : List ℕ → Type 0
HasStoreHeader file = header_size file + store_header_len ≤ volume_len file

-- the store is formatted and healthy, ends in the volume, and is cut into fours
pub record HasGoodStore (file : List ℕ) : Type 0 where
  pub state : bytes_at file (header_size file + 20) 2 ≡ 0x5A ∷ 0xFE ∷ []
  pub least : store_header_len ≤ store_size file
  pub fours : store_size file % 4 ≡ 0
  pub within : header_size file + store_size file ≤ volume_len file

-- ---- the file

-- the headers, the records of variables, what is free after them, and what follows the store
pub record StoreParts : Type 0 where
  pub head : List ℕ
  pub records : List RecordParts
  pub free : List ℕ
  pub rest : List ℕ

abbrev pub store_parts : VariableStore → StoreParts
store_parts s = record { head = s.head.now; records = map record_parts s.records.items; free = s.free.now; rest = s.rest.now }

-- the bytes after the store's header
abbrev pub area_of : List ℕ → List ℕ
area_of file = bytes_at file (header_size file + store_header_len) (store_size file - store_header_len)

-- the file is a volume with these parts
pub record SpellsStore (file : List ℕ) (store : StoreParts) : Type 0 where
  pub volume : IsVolume file
  pub header : HasGoodHeader file
  pub room : HasStoreHeader file
  pub guid : bytes_at file (header_size file) 16 ≡ store_guid
  pub good : HasGoodStore file
  pub head : store.head ≡ take (header_size file + store_header_len) file
  pub area : HasRecords (area_of file) store.records store.free
  pub rest : store.rest ≡ drop (header_size file + store_size file) file

-- ---- faults

-- it passed all tests before those of the store
abbrev pub HasVolume : List ℕ → Type 0
HasVolume file = IsVolume file × HasGoodHeader file

-- there is a store of variables whose records have times
abbrev pub HasRoom : List ℕ → Type 0
HasRoom file = HasVolume file × HasStoreHeader file × (bytes_at file (header_size file) 16 ≡ store_guid)

-- the fault is of the file, unless it is out of memory: its tests, in their order
abbrev pub IsStoreFault : List ℕ → StoreFault → Type 0
IsStoreFault file fault.NoVolume = ¬ IsVolume file
IsStoreFault file fault.BadHeader = IsVolume file × (¬ HasGoodHeader file)
IsStoreFault file fault.NoStore = HasVolume file × ((¬ HasStoreHeader file)
    ⊎ ((bytes_at file (header_size file) 16 ≢ store_guid) × (bytes_at file (header_size file) 16 ≢ plain_store_guid)))
IsStoreFault file fault.Unauthenticated = HasVolume file × HasStoreHeader file × (bytes_at file (header_size file) 16 ≡ plain_store_guid)
IsStoreFault file fault.BadStore = HasRoom file × (¬ HasGoodStore file)
IsStoreFault file (fault.CutRecord place) =
    HasRoom file × HasGoodStore file × (start : ℕ) × (place ≡ header_size file + store_header_len + start) × HasCutRecord (area_of file) start
IsStoreFault file fault.OutOfMemory = Unit {0}
