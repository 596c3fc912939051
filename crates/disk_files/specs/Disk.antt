-- Where a disk is, and what comes of a search for the disk to which a path leads.
use Rattle.std.specs.Prelude.{◌≡◌, ℕ, ◌==◌, Bool, true, false, ◌&&◌, ◌||◌, nat_le, List, [], ◌∷◌, length, filter, codes, Option, Some, None, if◌then◌else◌}
use Rattle.std.specs.List.{list_all}
use Rattle.std.specs.Cmp.Lexicographic.{pointwise}
use Rattle.uefi_path.specs.declared.node.Node.{Node}
use Rattle.uefi_path.specs.declared.node.Node.TheVariants.{Pci, Acpi, Usb, Sata, Nvme}
use Rattle.disk_files.specs.declared.disk.DiskStep.{DiskStep}
use Rattle.disk_files.specs.declared.disk.DiskStep.TheVariants as step
use Rattle.disk_files.specs.declared.disk.FoundDisk.{FoundDisk}
use Rattle.disk_files.specs.declared.disk.DiskSearch.{DiskSearch}
use Rattle.disk_files.specs.declared.disk.DiskSearch.TheVariants as search

-- the root of a PCI bus: PNP0A03 or PNP0A08 (UEFI 2.10, 10.4.2), with the _UID that ACPI has for it
abbrev pub is_root : ℕ → Node → Bool
is_root told (Acpi hid uid) = ((hid == 0x0a0341d0) || (hid == 0x0a0841d0)) && (uid == told)
is_root told _ = false

abbrev pub is_function : ℕ → ℕ → Node → Bool
is_function told_function told_device (Pci function device) = (function == told_function) && (device == told_device)
is_function told_function told_device _ = false

-- there is no multiplier if bit 15 is set: 0xFFFF in UEFI 2.10 (10.3.4.6), and only that bit in older firmware
abbrev pub multiplier_port : ℕ → ℕ
multiplier_port multiplier = if nat_le 0x8000 multiplier then 0 else multiplier

abbrev pub is_sata : ℕ → ℕ → ℕ → Node → Bool
is_sata port channel told_lun (Sata hba multiplier lun) =
    ((hba == port) && (multiplier_port multiplier == channel)) && (lun == told_lun)
is_sata port channel told_lun _ = false

-- a node without an EUI-64, which has zeros there, is of any namespace of its number
abbrev pub is_same_eui : List ℕ → List ℕ → Bool
is_same_eui told eui = list_all (λ byte. byte == 0) eui || pointwise ◌==◌ eui told

abbrev pub is_nvme : ℕ → List ℕ → Node → Bool
is_nvme told told_eui (Nvme namespace eui) = (namespace == told) && is_same_eui told_eui eui
is_nvme told told_eui _ = false

abbrev pub is_usb : ℕ → ℕ → Node → Bool
is_usb told_port told_interface (Usb port interface) = (port == told_port) && (interface == told_interface)
is_usb told_port told_interface _ = false

-- the node is of the step
abbrev pub is_step : DiskStep → Node → Bool
is_step (step.Root uid) node = is_root uid node
is_step (step.Function function device) node = is_function function device node
is_step (step.Sata port channel lun) node = is_sata port channel lun node
is_step (step.Nvme namespace eui) node = is_nvme namespace eui node
is_step (step.Usb port interface) node = is_usb port interface node

-- a path leads to a disk if each of its nodes is of a step of the way there, and there are no more steps
abbrev pub is_place : List DiskStep → List Node → Bool
is_place [] nodes = length nodes == 0
is_place (step ∷ steps) [] = false
is_place (step ∷ steps) (node ∷ nodes) = is_step step node && is_place steps nodes

-- those of the disks to which a path leads
abbrev pub those_at : List Node → List FoundDisk → List FoundDisk
those_at path disks = filter (λ disk. is_place disk.place.items path) disks

-- what is said of these disks, to which a path leads: the only one, the first two, or that there is none
abbrev pub IsDiskSearch : List FoundDisk → DiskSearch → Type 0
IsDiskSearch found (search.Found one) = found ≡ one.now ∷ []
IsDiskSearch found (search.Several one other) = (rest : List FoundDisk) × (found ≡ one.now ∷ (other.now ∷ rest))
IsDiskSearch found search.Missing = found ≡ []

-- ---- what udev tells of a partition

abbrev pub is_fat_name : List ℕ → Bool
is_fat_name name = pointwise ◌==◌ name (codes "vfat")

-- an EFI system partition: its type in a GUID partition table, or in a master boot record
abbrev pub is_system_type : List ℕ → Bool
is_system_type kind = pointwise ◌==◌ kind (codes "c12a7328-f81f-11d2-ba4b-00a0c93ec93b") || pointwise ◌==◌ kind (codes "0xef")

-- by the types of its file system and of the partition: if udev tells neither, nothing is known, and if it tells the second alone,
-- it saw no file system there
abbrev pub may_be_fat : Option (List ℕ) → Option (List ℕ) → Bool
may_be_fat (Some name) kind = is_fat_name name
may_be_fat None (Some kind) = is_system_type kind
may_be_fat None None = true
