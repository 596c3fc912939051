-- The lines of /proc/self/mountinfo.
use Rattle.std.specs.Prelude.{ℕ, ◌+◌, List, [], ◌∷◌, Result, Ok, Err}
use Rattle.partitions.specs.Cut.{lines_of}
use Rattle.partitions.specs.Mount.{MountParts, mount_of, ◌>>◌}
use Rattle.partitions.specs.declared.fault.MountFault.{MountFault}
use Rattle.partitions.specs.declared.fault.MountsFault.{MountsFault}
use Rattle.partitions.specs.declared.fault.MountsFault.TheVariants as fault

-- a mount in front of others, or the fault of the line of this number
abbrev pub with_line : ℕ → Result MountParts MountFault → Result (List MountParts) MountsFault → Result (List MountParts) MountsFault
with_line number (Err bad) others = Err (fault.BadLine number bad)
with_line number (Ok mount) others = others >> λ more. Ok (mount ∷ more)

-- the mounts that lines tell of, the first of which has this number, or the first fault; empty lines tell of none
abbrev pub mounts_from : ℕ → List (List ℕ) → Result (List MountParts) MountsFault
mounts_from number [] = Ok []
mounts_from number ([] ∷ lines) = mounts_from (number + 1) lines
mounts_from number ((byte ∷ line) ∷ lines) = with_line number (mount_of (byte ∷ line)) (mounts_from (number + 1) lines)

abbrev pub mounts_of : List ℕ → Result (List MountParts) MountsFault
mounts_of text = mounts_from 1 (lines_of text)
