-- The node of a partition (UEFI 2.10, 10.3.5.1).
use Rattle.std.specs.Prelude.{ℕ, ◌/◌, ◌%◌, ◌==◌, Bool, ◌||◌, nat_lt, not, List, ◌++◌, replicate, Result, Ok, Err, if◌then◌else◌}
use Rattle.std.specs.Int.{w32, to_le_bytes}
use Rattle.uefi_path.specs.Parts.{HardDriveParts, hard_drive_parts}
use Rattle.partitions.specs.declared.partition.Partition.{Partition}
use Rattle.partitions.specs.declared.partition_id.PartitionId.{PartitionId}
use Rattle.partitions.specs.declared.partition_id.PartitionId.TheVariants.{Gpt, Mbr}
use Rattle.partitions.specs.declared.fault.PartitionFault.{PartitionFault}
use Rattle.partitions.specs.declared.fault.PartitionFault.TheVariants as fault

-- how many sectors of 512 bytes a logical block has
abbrev pub block_sectors : Partition → ℕ
block_sectors p = p.block_size / 512

abbrev pub has_bad_block_size : Partition → Bool
has_bad_block_size p = (p.block_size == 0) || not (p.block_size % 512 == 0)

-- a node of the partition's number, with this start, size and signature: the format of the partition table is also the kind
-- of the signature
abbrev pub node_with : Partition → ℕ → ℕ → List ℕ → ℕ → HardDriveParts
node_with p start size signature format = hard_drive_parts p.number start size signature format format

-- how many partitions a master boot record has itself: those behind an extended one have other nodes, if any
abbrev pub primary_count : ℕ
primary_count = 4

-- the node in a master boot record of this signature, which says that the signature is in the first four bytes: one of 0 is
-- that of a disk without one
abbrev pub mbr_node_at : Partition → ℕ → ℕ → ℕ → Result HardDriveParts PartitionFault
mbr_node_at p start size signature =
    if signature == 0 then Err fault.NoSignature
    else (if nat_lt primary_count p.number then Err fault.NotPrimary
    else Ok (node_with p start size (to_le_bytes w32 signature ++ replicate 12 0) 1))

-- the node with this start and size, by what the partition is known by: 2 is the format of a GUID partition table, and says
-- that the signature is the identifier; 1 is that of a master boot record
abbrev pub node_at : Partition → ℕ → ℕ → PartitionId → Result HardDriveParts PartitionFault
node_at p start size (Gpt guid) = Ok (node_with p start size guid.0 2)
node_at p start size (Mbr signature number) =
    if number == p.number then mbr_node_at p start size signature else Err fault.OtherNumber

-- the node of a partition, or the first fault
abbrev pub node_of : Partition → Result HardDriveParts PartitionFault
node_of p =
    if p.number == 0 then Err fault.NoNumber
    else (if has_bad_block_size p then Err fault.BadBlockSize
    else (if not (p.start % block_sectors p == 0) then Err fault.UnevenStart
    else (if not (p.size % block_sectors p == 0) then Err fault.UnevenSize
    else node_at p (p.start / block_sectors p) (p.size / block_sectors p) p.id)))
