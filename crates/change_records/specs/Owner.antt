-- Whose the record is whose file begins with some bytes.
use Rattle.std.specs.Prelude.{◌≡◌, ◌≢◌, ℕ, List, ◌++◌}
use Rattle.uefi_vars.specs.Set.{data_bytes}
use Rattle.change_records.specs.declared.owner.Owner.{Owner}
use Rattle.change_records.specs.declared.owner.Owner.TheVariants.{Own, Other, Unknown}
use Rattle.change_records.specs.Fields.{magic, IsShort}

-- the magic and this field are at the start
pub record BeginsWith (bytes field : List ℕ) : Type 0 where
  pub short : IsShort field
  pub behind : List ℕ
  pub parts : bytes ≡ (magic ++ data_bytes field) ++ behind

-- for the machine of this name
abbrev pub IsOwner : List ℕ → List ℕ → Owner → Type 0
IsOwner head machine Own = BeginsWith head machine
IsOwner head machine Other = (name : List ℕ) × (name ≢ machine) × BeginsWith head name
IsOwner head machine Unknown = (name : List ℕ) → ¬ BeginsWith head name
