-- What is added of a line.
use Rattle.std.proofs.Common.{◌≡◌, false, eqb, List, [], ◌∷◌, ◌++◌, ℕ, length}
use Rattle.std.specs.Prelude.{Ok}
use Rattle.partitions.specs.Mount.{mount_parts, mount_of}
use Rattle.partitions.specs.Adding.{AddsMount}
use Rattle.partitions.specs.declared.mount.Mount.{Mount}

pub adds_from : (line : List ℕ) (old new : List Mount) (mount : Mount) → eqb (length line) 0 ≡ false → mount_of line ≡ Ok (mount_parts mount)
    → new ≡ old ++ mount ∷ [] → AddsMount line old new
adds_from [] old new mount some told added = cc
adds_from (byte ∷ line) old new mount some told added = (mount, told, added)
