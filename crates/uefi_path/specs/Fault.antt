-- The first fault of the bytes of a path.
use Rattle.std.specs.Prelude.{◌≡◌, ◌≢◌, ◌⊎◌, ℕ, ◌^◌, ◌<◌, ◌≤◌, List, [], ◌++◌, length}
use Rattle.std.specs.List.{flat_map, AllByRecursion}
use Rattle.uefi_path.specs.declared.fault.PathFault.{PathFault}
use Rattle.uefi_path.specs.declared.fault.PathFault.TheVariants.{NoEnd, ShortHeader, BadLength, PastEnd, BadEnd}
use Rattle.uefi_path.specs.declared.fault.PathFault.TheVariants.{OutOfMemory}
use Rattle.uefi_path.specs.Row.{Row, header_bytes, row_bytes, end_instance, IsRow}

-- a row that is before the end of a path: that of a node, or the end of an instance
pub record IsBeforeEnd (r : Row) : Type 0 where
  pub row : IsRow r
  pub no_end : (r.kind ≢ 0x7F) ⊎ (r ≡ end_instance)

-- the rest begins with the header of a node of this type, sub-type and length
pub record HasHeader (rest : List ℕ) (kind sub len : ℕ) : Type 0 where
  pub behind : List ℕ
  pub two_bytes : len < 2 ^ 16
  pub is : rest ≡ header_bytes kind sub len ++ behind

-- the rest begins with the header of a node that states this length
abbrev pub StatesLength : List ℕ → ℕ → Type 0
StatesLength rest len = (kind : ℕ) × (sub : ℕ) × HasHeader rest kind sub len

-- one of the two end nodes, by its sub-type and length (UEFI 2.10, 10.3.1)
abbrev pub IsEnd : ℕ → ℕ → Type 0
IsEnd sub len = ((sub ≡ 0x01) ⊎ (sub ≡ 0xFF)) × (len ≡ 4)

-- No node is at this offset, with this rest of the input, and the fault says why, with the bytes that are left if they are
-- too few, and those that a header states.
abbrev pub IsFaultAt : PathFault → ℕ → List ℕ → Type 0
IsFaultAt (NoEnd at) offset rest = (at ≡ offset) × (rest ≡ [])
IsFaultAt (ShortHeader at left) offset rest =
    (at ≡ offset) × (left ≡ length rest) × (0 < length rest) × (length rest < 4)
IsFaultAt (BadLength at) offset rest =
    (at ≡ offset) × (len : ℕ) × StatesLength rest len × (len < 4)
IsFaultAt (PastEnd at len left) offset rest =
    (at ≡ offset) × (left ≡ length rest) × StatesLength rest len × (4 ≤ len) × (length rest < len)
IsFaultAt (BadEnd at) offset rest =
    (at ≡ offset) × (sub : ℕ) × (len : ℕ) × HasHeader rest 0x7F sub len
    × (4 ≤ len) × (len ≤ length rest) × (¬ IsEnd sub len)
IsFaultAt OutOfMemory offset rest = ⊥

-- The input begins with rows that are before the end of a path, and the fault is that of what follows them.
pub record IsFirstFault (input : List ℕ) (fault : PathFault) : Type 0 where
  pub before : List Row
  pub rest : List ℕ
  pub inner : AllByRecursion IsBeforeEnd before
  pub parts : input ≡ flat_map row_bytes before ++ rest
  pub fault_at : IsFaultAt fault (length (flat_map row_bytes before)) rest
