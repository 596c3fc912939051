-- The one printed text of a node and of a path.
use Rattle.std.specs.Prelude.{ℕ, ◌/◌, ◌%◌, Bool, ◌==◌, ◌&&◌, ◌||◌, false, not, nat_le, List, [], ◌∷◌, ◌++◌, map, take, drop}
use Rattle.std.specs.Prelude.{decimal, codes, if◌then◌else◌}
use Rattle.std.specs.List.{list_all}
use Rattle.std.specs.Int.{w16, w32, to_be_bytes, from_le_bytes}
use Rattle.uefi_path.specs.declared.node.Node.{Node}
use Rattle.uefi_path.specs.declared.node.Node.TheVariants.{Pci, VendorHw, Acpi, Usb, VendorMsg, Mac, Ipv4, Sata, Vlan, Nvme}
use Rattle.uefi_path.specs.declared.node.Node.TheVariants.{Uri, HardDrive, Cdrom, VendorMedia, FilePath, Other}
use Rattle.uefi_path.specs.Parts.{VendorParts, Ipv4Parts, HardDriveParts}
use Rattle.uefi_path.specs.Row.{Row}
use Rattle.uefi_path.specs.Node.{row_of}
use Rattle.uefi_text.specs.Number.{number_text}
use Rattle.uefi_text.specs.Bytes.{hex_text, upper_hex_text, address_text, eui_text}
use Rattle.uefi_text.specs.Guid.{guid_text}
use Rattle.uefi_text.specs.Segment.{Segment, named, segment_text, cut_text}
use Rattle.uefi_path.specs.Standard.{pci_root_hid, pcie_root_hid}
use Rattle.uefi_text.specs.Node.{pnp}

-- no argument if there is no data, otherwise its digits
abbrev pub data_arguments : List ℕ → List (List ℕ)
data_arguments [] = []
data_arguments (byte ∷ bytes) = hex_text (byte ∷ bytes) ∷ []

-- a node without a form of its own: type, sub-type and data
abbrev pub generic_segment : Row → Segment
generic_segment r = named (codes "Path") (number_text r.kind ∷ number_text r.sub ∷ data_arguments r.body)

abbrev pub vendor_segment : List ℕ → VendorParts → Segment
vendor_segment name vendor = named name (guid_text vendor.guid ∷ data_arguments vendor.body)

-- a number of 32 bits with all its eight digits
abbrev pub eight_digits : ℕ → List ℕ
eight_digits n = codes "0x" ++ hex_text (to_be_bytes w32 n)

-- a hardware identifier that begins with PNP, and any other
abbrev pub hid_text : ℕ → List ℕ
hid_text hid =
    if hid % 0x10000 == pnp then codes "PNP" ++ upper_hex_text (to_be_bytes w16 (hid / 0x10000)) else eight_digits hid

abbrev pub acpi_segment : ℕ → ℕ → Segment
acpi_segment hid uid =
    if hid == pci_root_hid then named (codes "PciRoot") (number_text uid ∷ [])
    else (if hid == pcie_root_hid then named (codes "PcieRoot") (number_text uid ∷ [])
    else named (codes "Acpi") (hid_text hid ∷ number_text uid ∷ []))

abbrev pub are_zero : List ℕ → Bool
are_zero bytes = list_all (λ byte. byte == 0) bytes

-- an address of six bytes of an interface of type 0 or 1
abbrev pub is_plain_mac : List ℕ → ℕ → Bool
is_plain_mac address if_kind = nat_le if_kind 1 && are_zero (drop 6 address)

abbrev pub mac_segment : List ℕ → ℕ → Segment
mac_segment address if_kind = named (codes "MAC") (hex_text (take 6 address) ∷ number_text if_kind ∷ [])

-- a connection without ports, whose address is by DHCP or static
abbrev pub is_plain_ipv4 : Ipv4Parts → Bool
is_plain_ipv4 p = p.local_port == 0 && (p.remote_port == 0 && nat_le p.fixed 1)

abbrev pub ipv4_segment : Ipv4Parts → Segment
ipv4_segment p =
    named (codes "IPv4")
    (address_text p.remote ∷ number_text p.protocol ∷ (if p.fixed == 0 then codes "DHCP" else codes "Static")
    ∷ address_text p.local ∷ address_text p.gateway ∷ address_text p.mask ∷ [])

-- from this code to 0x7E, and no parenthesis
abbrev pub is_plain_from : ℕ → ℕ → Bool
is_plain_from low code = nat_le low code && (nat_le code 0x7E && (not (code == 0x28) && not (code == 0x29)))

-- a partition of a GUID partition table, and one of a master boot record
abbrev pub is_gpt : HardDriveParts → Bool
is_gpt p = p.format == 2 && p.signature_kind == 2

abbrev pub is_mbr : HardDriveParts → Bool
is_mbr p = p.format == 1 && (p.signature_kind == 1 && are_zero (drop 4 p.signature))

-- the number in the first four bytes of a signature
abbrev pub mbr_text : List ℕ → List ℕ
mbr_text signature = eight_digits (from_le_bytes w32 (take 4 signature))

abbrev pub partition_segment : HardDriveParts → List ℕ → List ℕ → Segment
partition_segment p format signature =
    named (codes "HD") (decimal p.partition ∷ format ∷ signature ∷ number_text p.start ∷ number_text p.size ∷ [])

-- the segment of a node, if it has a form of its own; otherwise that of its row
abbrev pub segment_of : Node → Segment
segment_of (Pci function device) = named (codes "Pci") (number_text device ∷ number_text function ∷ [])
segment_of (VendorHw vendor) = vendor_segment (codes "VenHw") vendor
segment_of (Acpi hid uid) = acpi_segment hid uid
segment_of (Usb port interface) = named (codes "USB") (number_text port ∷ number_text interface ∷ [])
segment_of (VendorMsg vendor) = vendor_segment (codes "VenMsg") vendor
segment_of (Mac address if_kind) =
    if is_plain_mac address if_kind then mac_segment address if_kind
    else generic_segment (row_of (Mac address if_kind))
segment_of (Ipv4 parts) = if is_plain_ipv4 parts then ipv4_segment parts else generic_segment (row_of (Ipv4 parts))
segment_of (Sata hba multiplier lun) =
    named (codes "Sata") (number_text hba ∷ number_text multiplier ∷ number_text lun ∷ [])
segment_of (Vlan id) = named (codes "Vlan") (number_text id ∷ [])
segment_of (Nvme namespace eui) = named (codes "NVMe") (number_text namespace ∷ eui_text eui ∷ [])
segment_of (Uri bytes) =
    if list_all (is_plain_from 0x21) bytes then named (codes "Uri") (bytes ∷ [])
    else generic_segment (row_of (Uri bytes))
segment_of (HardDrive parts) =
    if is_gpt parts then partition_segment parts (codes "GPT") (guid_text parts.signature)
    else (if is_mbr parts then partition_segment parts (codes "MBR") (mbr_text parts.signature)
    else generic_segment (row_of (HardDrive parts)))
segment_of (Cdrom entry start size) =
    named (codes "CDROM") (number_text entry ∷ number_text start ∷ number_text size ∷ [])
segment_of (VendorMedia vendor) = vendor_segment (codes "VenMedia") vendor
segment_of (FilePath units) =
    if list_all (is_plain_from 0x20) units then named (codes "File") (units ∷ [])
    else generic_segment (row_of (FilePath units))
segment_of (Other other) = generic_segment other

-- the node's segment is an `HD` or a `File`
abbrev pub is_hd_or_file : Node → Bool
is_hd_or_file (HardDrive parts) = is_gpt parts || is_mbr parts
is_hd_or_file (FilePath units) = list_all (is_plain_from 0x20) units
is_hd_or_file node = false

abbrev pub node_text : Node → List ℕ
node_text node = segment_text (segment_of node)

-- the printed text of a path
abbrev pub canonical : List (List Node) → List ℕ
canonical path = cut_text (map (map segment_of) path)
