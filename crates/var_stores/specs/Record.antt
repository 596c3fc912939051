-- The records of a variable store, as edk2 writes them. Numbers are little-endian.
use Rattle.std.specs.Prelude.{◌≡◌, ◌≢◌, ℕ, ◌+◌, ◌-◌, ◌%◌, ◌==◌, ◌||◌, Bool, if◌then◌else◌, List, ◌∷◌, ◌++◌, length, take, drop}
use Rattle.std.specs.Int.{w32, from_le_bytes}
use Rattle.std.specs.List.{AllByRecursion, flat_map}
use Rattle.var_stores.specs.declared.record.Record.{Record}

-- A record has two bytes by which it begins, its state, 57 bytes more of its header, the bytes of its name, those of its
-- value, and bytes up to a multiple of four.
pub record RecordParts : Type 0 where
  pub state : ℕ
  pub header : List ℕ
  pub name : List ℕ
  pub value : List ℕ
  pub padding : List ℕ

abbrev pub record_parts : Record → RecordParts
record_parts r = record { state = r.state; header = r.header.now; name = r.name.now; value = r.value.now; padding = r.padding.now }

-- ---- the fields of a header, by their places after the state: a byte that isn't used, the attributes, 28 bytes with a
-- count, a time and the index of a key, how many bytes the name and the value have, and the vendor's GUID

abbrev pub header_len : ℕ
header_len = 57

abbrev pub number_in : List ℕ → ℕ → ℕ
number_in header place = from_le_bytes w32 (take 4 (drop place header))

abbrev pub attributes_in : List ℕ → ℕ
attributes_in header = number_in header 1

abbrev pub attribute_bytes : List ℕ → List ℕ
attribute_bytes header = take 4 (drop 1 header)

abbrev pub name_size_in : List ℕ → ℕ
name_size_in header = number_in header 33

abbrev pub value_size_in : List ℕ → ℕ
value_size_in header = number_in header 37

abbrev pub vendor_in : List ℕ → List ℕ
vendor_in header = drop 41 header

-- the greatest number of four bytes, which memory that wasn't written reads as
abbrev pub blank : ℕ
blank = 4294967295

-- whether the header wasn't written to its end: nothing follows such a one
abbrev pub is_unfinished : ℕ → List ℕ → Bool
is_unfinished state header =
    (state == 255) || ((attributes_in header == blank) || ((name_size_in header == blank) || (value_size_in header == blank)))

-- what the header states of the name and the value, or 0 if it wasn't written to its end
abbrev pub name_len : ℕ → List ℕ → ℕ
name_len state header = if is_unfinished state header then 0 else name_size_in header

abbrev pub value_len : ℕ → List ℕ → ℕ
value_len state header = if is_unfinished state header then 0 else value_size_in header

-- how many bytes follow this many up to a multiple of four
abbrev pub padding_len : ℕ → ℕ
padding_len len = (4 - len % 4) % 4

-- the lengths are those that the header states
pub record IsRecord (r : RecordParts) : Type 0 where
  pub header : length r.header ≡ header_len
  pub name : length r.name ≡ name_len r.state r.header
  pub value : length r.value ≡ value_len r.state r.header
  pub padding : length r.padding ≡ padding_len (length r.name + length r.value)

-- ---- bytes

abbrev pub record_bytes : RecordParts → List ℕ
record_bytes r = 0xAA ∷ 0x55 ∷ r.state ∷ (r.header ++ (r.name ++ (r.value ++ r.padding)))

-- the two bytes by which a record begins
abbrev pub BeginsRecord : List ℕ → Type 0
BeginsRecord (first ∷ second ∷ bytes) = (first ≡ 0xAA) × (second ≡ 0x55)
BeginsRecord _ = ⊥

-- the bytes are these records, and after them others, with which no record begins
pub record HasRecords (bytes : List ℕ) (records : List RecordParts) (free : List ℕ) : Type 0 where
  pub is : bytes ≡ flat_map record_bytes records ++ free
  pub whole : AllByRecursion IsRecord records
  pub stops : ¬ BeginsRecord free

-- a record begins with the bytes, which has no end among them
pub record IsCutRecord (bytes : List ℕ) : Type 0 where
  pub begins : BeginsRecord bytes
  pub cut : (r : RecordParts) (rest : List ℕ) → IsRecord r → bytes ≢ record_bytes r ++ rest

-- The bytes are these records, and then a record begins that ends past them. Its place is how many bytes are before it.
pub record HasCutRecord (bytes : List ℕ) (place : ℕ) : Type 0 where
  pub records : List RecordParts
  pub rest : List ℕ
  pub is : bytes ≡ flat_map record_bytes records ++ rest
  pub whole : AllByRecursion IsRecord records
  pub place_is : place ≡ length (flat_map record_bytes records)
  pub here : IsCutRecord rest
