-- Nodes with a case of their own, as libefivar 37 prints them.
use Rattle.std.specs.Prelude.{ℕ, true, ◌==◌, nat_le, List, [], ◌∷◌, map, take, codes, decimal, if◌then◌else◌}
use Rattle.std.specs.Fmt.{signed_decimal}
use Rattle.std.specs.Int.{w32, from_le_bytes, cast_signed}
use Rattle.std.specs.List.{join_with_byte}
use Rattle.uefi_path.specs.declared.node.Node.{Node}
use Rattle.uefi_path.specs.declared.node.Node.TheVariants.{VendorHw, Acpi, Usb, VendorMsg, Mac, Sata, Vlan, Nvme, HardDrive, Cdrom}
use Rattle.uefi_path.specs.Parts.{HardDriveParts}
use Rattle.uefi_path.specs.Standard.{pci_root_hid, pcie_root_hid}
use Rattle.uefi_text.specs.Number.{number_text}
use Rattle.uefi_text.specs.Bytes.{pair_text, hex_text, hyphen}
use Rattle.uefi_text.specs.Guid.{guid_text}
use Rattle.uefi_text.specs.Segment.{Segment, named, segment_text}
use Rattle.uefi_text.specs.Printed.{eight_digits, node_text}
use Rattle.efibootmgr_words.specs.Vendors.{hardware_text, messaging_text}

-- PNP0301, PNP0501 and PNP0604, a keyboard, a serial port and a floppy disk, as compressed EISA identifiers
abbrev pub keyboard_hid : ℕ
keyboard_hid = 0x030141D0

abbrev pub serial_hid : ℕ
serial_hid = 0x050141D0

abbrev pub floppy_hid : ℕ
floppy_hid = 0x060441D0

abbrev pub acpi_segment : ℕ → ℕ → Segment
acpi_segment hid uid =
    if hid == pci_root_hid then named (codes "PciRoot") (number_text uid ∷ [])
    else (if hid == pcie_root_hid then named (codes "PcieRoot") (number_text uid ∷ [])
    else (if hid == keyboard_hid then named (codes "Keyboard") (number_text uid ∷ [])
    else (if hid == serial_hid then named (codes "Serial") (number_text uid ∷ [])
    else (if hid == floppy_hid then named (codes "Floppy") (number_text uid ∷ [])
    else named (codes "Acpi") (eight_digits hid ∷ number_text uid ∷ [])))))

-- the bytes of an address that are printed: six of an interface of type 0 or 1
abbrev pub mac_bytes : List ℕ → ℕ → List ℕ
mac_bytes address if_kind = if nat_le if_kind 1 then take 6 address else address

abbrev pub mac_segment : List ℕ → ℕ → Segment
mac_segment address if_kind = named (codes "MAC") (hex_text (mac_bytes address if_kind) ∷ decimal if_kind ∷ [])

abbrev pub upper_eui_text : List ℕ → List ℕ
upper_eui_text eui = join_with_byte hyphen (map (pair_text true) eui)

-- a number of 32 bits, the highest of which is its sign
abbrev pub signed : ℕ → List ℕ
signed n = signed_decimal (cast_signed w32 n)

abbrev pub partition_segment : HardDriveParts → List ℕ → List ℕ → Segment
partition_segment p kind signature =
    named (codes "HD") (signed p.partition ∷ kind ∷ signature ∷ number_text p.start ∷ number_text p.size ∷ [])

-- a partition, with its signature as the type of that says, whatever the format of the table
abbrev pub hard_drive_segment : HardDriveParts → Segment
hard_drive_segment p =
    if p.signature_kind == 1 then partition_segment p (codes "MBR") (number_text (from_le_bytes w32 (take 4 p.signature)))
    else (if p.signature_kind == 2 then partition_segment p (codes "GPT") (guid_text p.signature)
    else partition_segment p (decimal p.signature_kind) (hex_text p.signature))

-- a node, but a file and what is kept as bytes as they are printed exactly
abbrev pub own_text : Node → List ℕ
own_text (VendorHw vendor) = hardware_text (VendorHw vendor) vendor
own_text (Acpi hid uid) = segment_text (acpi_segment hid uid)
own_text (Usb port interface) = segment_text (named (codes "USB") (decimal port ∷ decimal interface ∷ []))
own_text (VendorMsg vendor) = messaging_text (VendorMsg vendor) vendor
own_text (Mac address if_kind) = segment_text (mac_segment address if_kind)
own_text (Sata hba multiplier lun) =
    segment_text (named (codes "Sata") (decimal hba ∷ decimal multiplier ∷ decimal lun ∷ []))
own_text (Vlan id) = segment_text (named (codes "Vlan") (decimal id ∷ []))
own_text (Nvme namespace eui) =
    segment_text (named (codes "NVMe") (number_text namespace ∷ upper_eui_text eui ∷ []))
own_text (HardDrive parts) = segment_text (hard_drive_segment parts)
own_text (Cdrom entry start size) =
    segment_text (named (codes "CDROM") (signed entry ∷ number_text start ∷ number_text size ∷ []))
own_text node = node_text node
