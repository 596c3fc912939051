-- The name by which a file tells which machine's it is.
use Rattle.std.specs.Prelude.{◌≢◌, ℕ, ◌≤◌, List, [], length}
use Rattle.std.specs.List.{AllByRecursion}
use Rattle.uefi_path.specs.Row.{IsByte}

-- the most bytes that the name has
abbrev pub machine_name_max : ℕ
machine_name_max = 4096

-- 1 to 4,096 bytes, any
pub record IsMachineName (name : List ℕ) : Type 0 where
  pub some : name ≢ []
  pub len : length name ≤ machine_name_max
  pub bytes : AllByRecursion IsByte name
