-- The path of a file on a partition: the short form that firmware completes (UEFI 2.10, 3.1.2).
use Rattle.std.specs.Prelude.{◌≡◌, ◌≢◌, ◌==◌, ◌||◌, Bool, ℕ, List, [], ◌∷◌, map, Ok, Err, if◌then◌else◌}
use Rattle.std.specs.Str.{chars, IsUtf8}
use Rattle.std.specs.Prelude.{None}
use Rattle.uefi_path.specs.Parts.{HardDriveParts}
use Rattle.uefi_path.specs.declared.node.Node.{Node}
use Rattle.uefi_path.specs.declared.node.Node.TheVariants.{HardDrive, FilePath}
use Rattle.partitions.specs.Partition.{node_of}
use Rattle.partitions.specs.LoaderName.{bad_place, units_of, IsNameFault}
use Rattle.partitions.specs.declared.fault.LoaderNameFault.TheVariants as name_fault
use Rattle.partitions.specs.declared.partition.Partition.{Partition}
use Rattle.disk_files.specs.declared.fault.DiskFault.{DiskFault}
use Rattle.disk_files.specs.declared.fault.DiskFault.TheVariants as fault

-- one instance: the partition's node, and the name's, which has no character that a name can't have
abbrev pub IsFilePath : Partition → List ℕ → List (List Node) → Type 0
IsFilePath partition name path =
    IsUtf8 name × (bad_place (chars name) ≡ None)
    × ((drive : HardDriveParts) × (node_of partition ≡ Ok drive)
    × (path ≡ (HardDrive drive ∷ FilePath (units_of name) ∷ []) ∷ []))

-- why there is no path: the partition comes first
abbrev pub IsPathFault : Partition → List ℕ → DiskFault → Type 0
IsPathFault partition name (fault.Partition why) = node_of partition ≡ Err why
IsPathFault partition name (fault.Name why) =
    (why ≢ name_fault.OutOfMemory) × IsNameFault name why × ((drive : HardDriveParts) × (node_of partition ≡ Ok drive))
IsPathFault partition name fault.OutOfMemory = Unit {0}
IsPathFault partition name _ = ⊥

-- a slash for a backslash
abbrev pub slash_of : ℕ → ℕ
slash_of byte = if byte == 92 then 47 else byte

-- a slash or a backslash is in front
abbrev pub is_from_root : List ℕ → Bool
is_from_root [] = Bool.false
is_from_root (byte ∷ rest) = (byte == 47) || (byte == 92)

-- the name from the root on, with slashes
abbrev pub slashed : List ℕ → List ℕ
slashed name = if is_from_root name then map slash_of name else 47 ∷ map slash_of name
