-- What a partition is known by (PARTUUID).
use Rattle.std.specs.Prelude.{◌≡◌, ℕ, ◌==◌, ◌&&◌, nat_le, List, length, take, Option, Some, None, if◌then◌else◌}
use Rattle.std.specs.Int.{w32, from_le_bytes}
use Rattle.uefi_path.specs.Parts.{HardDriveParts}
use Rattle.uefi_path.specs.declared.guid.Guid.{Guid}
use Rattle.partitions.specs.Cut.{cut_of, hyphen}
use Rattle.partitions.specs.Number.{number_of}
use Rattle.partitions.specs.Device.{◌>>=◌}
use Rattle.partitions.specs.declared.partition_id.PartitionId.{PartitionId}
use Rattle.partitions.specs.declared.partition_id.PartitionId.TheVariants.{Gpt, Mbr}
use Rattle.uefi_text.specs.Guid.{IsGuid}

-- the signature of a master boot record and the number of a partition: eight hexadecimal digits, and behind a hyphen two to
-- eight more
unfoldable pub mbr_id_of : List ℕ → Option PartitionId
mbr_id_of text = do
  parts ← cut_of hyphen text
  signature ← number_of 16 0xFFFFFFFF parts.0
  number ← number_of 16 0xFFFFFFFF parts.1
  if length parts.0 == 8 && (nat_le 2 (length parts.1) && nat_le (length parts.1) 8) then Some (Mbr signature number) else None

-- the text is read as this
abbrev pub IsPartitionId : List ℕ → PartitionId → Type 0
IsPartitionId text (Gpt guid) = IsGuid text guid.0
IsPartitionId text (Mbr signature number) = mbr_id_of text ≡ Some (Mbr signature number)

abbrev pub guid_of : List ℕ → Guid
guid_of bytes = record { 0 = bytes }

-- the signature of a master boot record with the number of a partition: 0 is that of every disk without a signature, so it
-- tells none from others
abbrev pub signed : ℕ → ℕ → Option PartitionId
signed signature number = if signature == 0 then None else Some (Mbr signature number)

-- what the partition is known by that a node is of: 2 says that the signature is a GUID, 1 that it is that of a master boot
-- record, in the first four bytes
abbrev pub id_of_node : HardDriveParts → Option PartitionId
id_of_node node =
    if node.signature_kind == 2 then Some (Gpt (guid_of node.signature))
    else (if node.signature_kind == 1 then signed (from_le_bytes w32 (take 4 node.signature)) node.partition
    else None)
