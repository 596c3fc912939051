-- The table of nodes (UEFI 2.10, 10.3): the row of each node, and which nodes there are.
use Rattle.std.specs.Prelude.{◌≡◌, ℕ, ◌^◌, ◌<◌, List, [], ◌∷◌}
use Rattle.std.specs.List.{concat}
use Rattle.std.specs.Int.{w8, w16, w32, w64, to_le_bytes}
use Rattle.uefi_path.specs.declared.node.Node.{Node}
use Rattle.uefi_path.specs.declared.node.Node.TheVariants.{Pci, Acpi, Usb, Mac, Ipv4, Sata, Vlan, Nvme, HardDrive, Cdrom}
use Rattle.uefi_path.specs.declared.node.Node.TheVariants.{VendorHw, VendorMsg, Uri, VendorMedia, FilePath, Other}
use Rattle.uefi_path.specs.Parts.{ipv4_fields, AreIpv4Parts, hard_drive_fields, AreHardDriveParts}
use Rattle.uefi_path.specs.Parts.{vendor_bytes, IsVendor, IsUri, name_bytes, IsPathName}
use Rattle.uefi_path.specs.Row.{Row, row, row_bytes, AreBytes, IsOther}

-- type, sub-type, and the fields in their order
abbrev pub row_of : Node → Row
row_of (Pci function device) =
    row 1 1 (concat (to_le_bytes w8 function ∷ to_le_bytes w8 device ∷ []))
row_of (VendorHw vendor) = row 1 4 (vendor_bytes vendor)
row_of (Acpi hid uid) =
    row 2 1 (concat (to_le_bytes w32 hid ∷ to_le_bytes w32 uid ∷ []))
row_of (Usb port interface) = row 3 5 (concat (to_le_bytes w8 port ∷ to_le_bytes w8 interface ∷ []))
row_of (VendorMsg vendor) = row 3 10 (vendor_bytes vendor)
row_of (Mac address if_kind) = row 3 11 (concat (address ∷ to_le_bytes w8 if_kind ∷ []))
row_of (Ipv4 parts) = row 3 12 (concat (ipv4_fields parts))
row_of (Sata hba multiplier lun) =
    row 3 18 (concat (to_le_bytes w16 hba ∷ to_le_bytes w16 multiplier ∷ to_le_bytes w16 lun ∷ []))
row_of (Vlan id) = row 3 20 (concat (to_le_bytes w16 id ∷ []))
row_of (Nvme namespace eui) = row 3 23 (concat (to_le_bytes w32 namespace ∷ eui ∷ []))
row_of (Uri bytes) = row 3 24 bytes
row_of (HardDrive parts) = row 4 1 (concat (hard_drive_fields parts))
row_of (Cdrom entry start size) =
    row 4 2 (concat (to_le_bytes w32 entry ∷ to_le_bytes w64 start ∷ to_le_bytes w64 size ∷ []))
row_of (VendorMedia vendor) = row 4 3 (vendor_bytes vendor)
row_of (FilePath units) = row 4 4 (name_bytes units)
row_of (Other other) = other

-- the numbers are in the ranges of their types, and the side conditions hold
abbrev pub IsNode : Node → Type 0
IsNode (Pci function device) = (function < 2 ^ 8) × (device < 2 ^ 8)
IsNode (VendorHw vendor) = IsVendor vendor
IsNode (Acpi hid uid) = (hid < 2 ^ 32) × (uid < 2 ^ 32)
IsNode (Usb port interface) = (port < 2 ^ 8) × (interface < 2 ^ 8)
IsNode (VendorMsg vendor) = IsVendor vendor
IsNode (Mac address if_kind) = AreBytes 32 address × (if_kind < 2 ^ 8)
IsNode (Ipv4 parts) = AreIpv4Parts parts
IsNode (Sata hba multiplier lun) = (hba < 2 ^ 16) × (multiplier < 2 ^ 16) × (lun < 2 ^ 16)
IsNode (Vlan id) = id < 2 ^ 16
IsNode (Nvme namespace eui) = (namespace < 2 ^ 32) × AreBytes 8 eui
IsNode (Uri bytes) = IsUri bytes
IsNode (HardDrive parts) = AreHardDriveParts parts
IsNode (Cdrom entry start size) = (entry < 2 ^ 32) × (start < 2 ^ 64) × (size < 2 ^ 64)
IsNode (VendorMedia vendor) = IsVendor vendor
IsNode (FilePath units) = IsPathName units
IsNode (Other other) = IsOther other

-- the spelling of a node
abbrev pub node_bytes : Node → List ℕ
node_bytes node = row_bytes (row_of node)

-- the bytes spell the node
abbrev pub SpellsNode : List ℕ → Node → Type 0
SpellsNode bytes node = IsNode node × (bytes ≡ node_bytes node)

-- the node has a case of its own
abbrev pub IsTyped : Node → Type 0
IsTyped (Other _) = ⊥
IsTyped _ = Unit {0}

-- some node with a case of its own has the row
abbrev pub HasTypedNode : Row → Type 0
HasTypedNode r = (node : Node) × IsNode node × (row_of node ≡ r) × IsTyped node
