-- For the private functions that read the lines of /proc/self/mountinfo: what comes of one line.
use Rattle.std.specs.Prelude.{◌≡◌, ℕ, List, [], ◌∷◌, ◌++◌, Ok, Err}
use Rattle.partitions.specs.Mount.{mount_parts, mount_of}
use Rattle.partitions.specs.declared.mount.Mount.{Mount}
use Rattle.partitions.specs.declared.fault.MountFault.{MountFault}
use Rattle.partitions.specs.declared.fault.MountsFault.{MountsFault}
use Rattle.partitions.specs.declared.fault.MountsFault.TheVariants as fault

-- the mount that the line tells of comes after those that were there, if it isn't empty
abbrev pub AddsMount : List ℕ → List Mount → List Mount → Type 0
AddsMount [] old new = new ≡ old
AddsMount (byte ∷ line) old new = (mount : Mount) × (mount_of (byte ∷ line) ≡ Ok (mount_parts mount)) × (new ≡ old ++ mount ∷ [])

-- the fault is that of the line, which has this number
abbrev pub IsLineFault : List ℕ → ℕ → MountsFault → Type 0
IsLineFault [] number refused = ⊥
IsLineFault (byte ∷ line) number refused =
    (bad : MountFault) × (mount_of (byte ∷ line) ≡ Err bad) × (refused ≡ fault.BadLine number bad)
