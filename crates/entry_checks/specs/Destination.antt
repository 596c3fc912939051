-- What tells a file from others to which entries lead.
use Rattle.std.specs.Prelude.{ℕ, ◌+◌, ◌&&◌, nat_le, List, [], ◌∷◌, ◌++◌, map, if◌then◌else◌}
use Rattle.std.specs.Int.{w32, to_le_bytes}
use Rattle.uefi_path.specs.Units.{units_bytes}
use Rattle.partitions.specs.declared.partition_id.PartitionId.{PartitionId}
use Rattle.partitions.specs.declared.partition_id.PartitionId.TheVariants.{Gpt, Mbr}

-- the small letter of ASCII for a capital one
abbrev pub lower_of : ℕ → ℕ
lower_of unit = if nat_le 0x41 unit && nat_le unit 0x5A then unit + 0x20 else unit

-- what a partition is known by: a byte that tells which it is, and the bytes of either
abbrev pub id_bytes : PartitionId → List ℕ
id_bytes (Gpt guid) = 0 ∷ guid.0
id_bytes (Mbr signature number) = 1 ∷ (to_le_bytes w32 signature ++ to_le_bytes w32 number)

-- Bytes that tell where an entry leads from elsewhere: the partition, the name in small letters, which has no zero, a
-- zero, and the data. So two of them are equal exactly if the partitions and the data are, and the names but for the case
-- of letters.
abbrev pub destination_of : PartitionId → List ℕ → List ℕ → List ℕ
destination_of id name optional = ((id_bytes id ++ units_bytes (map lower_of name)) ++ units_bytes (0 ∷ [])) ++ optional
