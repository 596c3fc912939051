-- Files that are read whole.
use Rattle.std.specs.Prelude.{◌≡◌, ◌⊎◌, ℕ, List, codes}
use Rattle.std.specs.Io.{StartsWith}

-- a path by which Linux shows a program what it was given open
abbrev pub IsGivenOpen : List ℕ → Type 0
IsGivenOpen path = ((path ≡ codes "/dev/stdin") ⊎ StartsWith path (codes "/dev/fd/")) ⊎ StartsWith path (codes "/proc/self/fd/")
