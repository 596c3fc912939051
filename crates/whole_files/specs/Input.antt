-- Files that are read whole.
use Rattle.std.specs.Prelude.{◌≤◌, ℕ, vec_len, ⊤}
use Rattle.whole_files.specs.declared.input.RegularFile.{RegularFile}
use Rattle.whole_files.specs.declared.input.RegularFile.TheVariants.{Bytes, TooMuch, Irregular}

-- what is read of a file has at most as many bytes as the limit
abbrev pub IsWithin : ℕ → RegularFile → Type 0
IsWithin limit (Bytes bytes) = vec_len bytes ≤ limit
IsWithin limit TooMuch = ⊤
IsWithin limit Irregular = ⊤
