-- Which mount a path leads to. Paths are without links and from the root on.
use Rattle.std.specs.Prelude.{◌≡◌, ℕ, ◌<◌, ◌≤◌, ◌==◌, ⊤, List, [], ◌∷◌, ◌++◌, vec_len, codes, if◌then◌else◌}
use Rattle.std.specs.List.{AllByRecursion}
use Rattle.std.specs.Cmp.Lexicographic.{pointwise}
use Rattle.partitions.specs.declared.mount.Mount.{Mount}

abbrev pub slash : ℕ
slash = 47

-- a folder's path as that of a file in it begins: the root's without its slash
abbrev pub stem_of : List ℕ → List ℕ
stem_of path = if pointwise ◌==◌ path (codes "/") then [] else path

-- nothing, or more behind a slash
abbrev pub IsBehindFolder : List ℕ → Type 0
IsBehindFolder [] = ⊤
IsBehindFolder (byte ∷ _) = byte ≡ slash

-- the path is that of the folder, or of something in it, which is the rest
pub record IsInFolder (folder path rest : List ℕ) : Type 0 where
  pub parts : path ≡ stem_of folder ++ rest
  pub behind : IsBehindFolder rest

abbrev pub LeadsTo : Mount → List ℕ → Type 0
LeadsTo mount path = (rest : List ℕ) × IsInFolder mount.point.items path rest

-- of the mounts to which the path leads this one has the longest mount point, and of those that are as long it is the last
pub record IsLeading (mounts : List Mount) (path : List ℕ) (mount : Mount) : Type 0 where
  pub before : List Mount
  pub after : List Mount
  pub among : mounts ≡ before ++ mount ∷ after
  pub leads : LeadsTo mount path
  pub none_longer : AllByRecursion (λ other. LeadsTo other path → vec_len other.point ≤ vec_len mount.point) before
  pub none_as_long : AllByRecursion (λ other. LeadsTo other path → vec_len other.point < vec_len mount.point) after

-- the path leads to none
abbrev pub LeadsToNone : List Mount → List ℕ → Type 0
LeadsToNone mounts path = AllByRecursion (λ mount. ¬ LeadsTo mount path) mounts
