-- What kind of file some bytes are.
use Rattle.std.specs.Prelude.{◌≡◌, ◌≤◌, ℕ, List, length, take, drop}
use Rattle.uefi_vars.specs.Set.{magic}
use Rattle.var_stores.specs.Volume.{volume_signature}
use Rattle.var_places.specs.declared.file_kinds.FileKind.{FileKind}
use Rattle.var_places.specs.declared.file_kinds.FileKind.TheVariants as kind

-- the file begins as a set file
abbrev pub BeginsSet : List ℕ → Type 0
BeginsSet file = take 4 file ≡ magic

-- the file has the signature of a firmware volume in its place
pub record HasSignature (file : List ℕ) : Type 0 where
  pub long : 44 ≤ length file
  pub signature : take 4 (drop 40 file) ≡ volume_signature

-- a set file is told by its first bytes, and otherwise a volume by its signature
abbrev pub IsKind : FileKind → List ℕ → Type 0
IsKind kind.Set file = BeginsSet file
IsKind kind.VariableFile file = (¬ BeginsSet file) × HasSignature file
IsKind kind.Other file = (¬ BeginsSet file) × (¬ HasSignature file)
