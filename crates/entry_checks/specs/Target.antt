-- Where a path leads, as far as that can be looked at (UEFI 2.10, 10.3).
use Rattle.std.specs.Prelude.{ℕ, ◌-◌, ◌==◌, Bool, true, false, ◌&&◌, ◌||◌, nat_le, List, [], ◌∷◌, length, slice_get, Option, Some, None, if◌then◌else◌}
use Rattle.std.specs.List.{list_any}
use Rattle.uefi_path.specs.declared.node.Node.{Node}
use Rattle.uefi_path.specs.declared.node.Node.TheVariants.{HardDrive, FilePath, Sata, Nvme, Usb}
use Rattle.uefi_path.specs.Node.{row_of}
use Rattle.uefi_path.specs.Parts.{HardDriveParts}
use Rattle.entry_checks.specs.declared.lead.Lead.{Lead}
use Rattle.entry_checks.specs.declared.lead.Lead.TheVariants as lead
use Rattle.entry_checks.specs.declared.target.Target.{Target}
use Rattle.entry_checks.specs.declared.target.Target.TheVariants as target

-- to a file on a partition, to a partition, to a disk, or to something that isn't looked at
pub data TargetParts : Type 0 where
  OnPartition : HardDriveParts → List ℕ → TargetParts
  Whole : HardDriveParts → TargetParts
  WholeDisk : List Node → TargetParts
  Elsewhere : Lead → TargetParts

-- what contracts see of a target
abbrev pub parts_of : Target → TargetParts
parts_of (target.File partition name) = OnPartition partition.now name.now
parts_of (target.Partition partition) = Whole partition.now
parts_of (target.Disk nodes) = WholeDisk nodes.now
parts_of (target.Unseen found) = Elsewhere found

-- a node of type 3 with the sub-type of InfiniBand, MAC, IPv4, IPv6, a URI, Wi-Fi or a name server
abbrev pub is_network : Node → Bool
is_network node = let row = row_of node in
    (row.kind == 3) && ((row.sub == 9) || ((nat_le 11 row.sub && nat_le row.sub 13) || ((row.sub == 24) || ((row.sub == 28) || (row.sub == 31)))))

-- mapped memory, a file of the firmware, or a volume of the firmware
abbrev pub is_firmware : Node → Bool
is_firmware node = let row = row_of node in
    if row.kind == 1 then row.sub == 3 else if row.kind == 4 then nat_le 6 row.sub && nat_le row.sub 7 else false

abbrev pub is_legacy : Node → Bool
is_legacy node = (row_of node).kind == 5

-- a disk: a node of type 3 with the sub-type of ATAPI, SCSI, Fibre Channel, USB, a class or a name of USB, a logical unit, SATA,
-- Fibre Channel or SAS in their longer forms, NVM Express, UFS, SD or eMMC; or the image of a CD-ROM
abbrev pub is_disk : Node → Bool
is_disk node = let row = row_of node in
    if row.kind == 3
    then (nat_le 1 row.sub && nat_le row.sub 3)
    || ((row.sub == 5) || ((nat_le 15 row.sub && nat_le row.sub 18) || ((nat_le 21 row.sub && nat_le row.sub 23)
    || ((nat_le 25 row.sub && nat_le row.sub 26) || (row.sub == 29)))))
    else if row.kind == 4 then row.sub == 2 else false

-- where nodes lead of which this is the last
abbrev pub lead_of_last : Option Node → Lead
lead_of_last (Some node) = if is_disk node then lead.Disk else lead.Device
lead_of_last None = lead.Device

abbrev pub lead_of_first : List Node → Lead
lead_of_first (FilePath name ∷ others) = lead.FileAlone
lead_of_first nodes = lead_of_last (slice_get nodes (length nodes - 1))

-- what nodes lead to of which none is a partition
abbrev pub lead_of : List Node → Lead
lead_of nodes =
    if list_any is_network nodes then lead.Network
    else if list_any is_firmware nodes then lead.Firmware
    else if list_any is_legacy nodes then lead.Legacy
    else lead_of_first nodes

abbrev pub is_disk_lead : Lead → Bool
is_disk_lead lead.Disk = true
is_disk_lead _ = false

-- a disk that is sought by its path: the last node is of SATA, NVM Express or USB
abbrev pub is_sought : Option Node → Bool
is_sought (Some (Sata hba multiplier lun)) = true
is_sought (Some (Nvme namespace eui)) = true
is_sought (Some (Usb port interface)) = true
is_sought _ = false

-- an entry's path leads to a whole disk if none of its nodes is a partition, a network, of the firmware or for a BIOS, the first
-- is no file, and the last is a disk that is sought; all of the nodes say which disk it is
abbrev pub is_whole_disk : List Node → Bool
is_whole_disk nodes = is_disk_lead (lead_of nodes) && is_sought (slice_get nodes (length nodes - 1))

abbrev pub without_partition : List Node → TargetParts
without_partition nodes = if is_whole_disk nodes then WholeDisk nodes else Elsewhere (lead_of nodes)

-- a partition, and these nodes behind it
abbrev pub behind : HardDriveParts → List Node → TargetParts
behind partition [] = Whole partition
behind partition (FilePath name ∷ []) = OnPartition partition name
behind partition _ = Elsewhere lead.Onward

abbrev pub partition_of : Node → Option HardDriveParts
partition_of (HardDrive partition) = Some partition
partition_of _ = None

-- a node that is a partition, with those behind it, or else what comes of those
abbrev pub target_or : Option HardDriveParts → List Node → TargetParts → TargetParts
target_or (Some partition) others later = behind partition others
target_or None others later = later

-- all of the nodes, and those of them from which on the first partition is sought
abbrev pub target_from : List Node → List Node → TargetParts
target_from nodes [] = without_partition nodes
target_from nodes (node ∷ others) = target_or (partition_of node) others (target_from nodes others)

abbrev pub target_of_nodes : List Node → TargetParts
target_of_nodes nodes = target_from nodes nodes

-- where a path leads: several instances aren't looked at
abbrev pub target_of : List (List Node) → TargetParts
target_of (nodes ∷ []) = target_of_nodes nodes
target_of _ = Elsewhere lead.Instances
