-- The set file: the variables of a machine as bytes.
use Rattle.std.specs.Prelude.{◌≡◌, ℕ, List, [], ◌∷◌, ◌++◌, length}
use Rattle.std.specs.List.{flat_map}
use Rattle.std.specs.Int.{w32, to_le_bytes}
use Rattle.std.specs.FinMap.{entries}
use Rattle.uefi_vars.specs.Vars.{Variables, IsVars}

-- the four bytes at the start: BVS1
abbrev pub magic : List ℕ
magic = 0x42 ∷ 0x56 ∷ 0x53 ∷ 0x31 ∷ []

-- a name: its length in one byte, which can state it if IsName holds, and its characters
abbrev pub name_bytes : List ℕ → List ℕ
name_bytes name = length name ∷ name

-- data: its length in four bytes, which can state it if IsData holds, and its bytes
abbrev pub data_bytes : List ℕ → List ℕ
data_bytes bytes = to_le_bytes w32 (length bytes) ++ bytes

-- the record of one variable
abbrev pub record_bytes : List ℕ × List ℕ → List ℕ
record_bytes variable = name_bytes variable.0 ++ data_bytes variable.1

abbrev pub records_bytes : List (List ℕ × List ℕ) → List ℕ
records_bytes variables = flat_map record_bytes variables

-- the spelling of the variables: the magic, and a record for each name, in the order of the names
abbrev pub set_bytes : Variables → List ℕ
set_bytes vars = magic ++ records_bytes (entries vars)

-- the bytes, all of them, spell the variables
abbrev pub SpellsSet : List ℕ → Variables → Type 0
SpellsSet bytes vars = IsVars vars × (bytes ≡ set_bytes vars)
