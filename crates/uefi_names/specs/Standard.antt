-- The table of the standard's nodes (UEFI 2.10, 10.3) that are kept as bytes, row by row.
use Rattle.std.specs.Prelude.{ℕ, ◌+◌, List, [], ◌∷◌, ◌++◌, map, codes}
use Rattle.std.specs.Borrow.{Bor}
use Rattle.uefi_names.specs.declared.table.NodeTable.{NodeTable}
use Rattle.uefi_names.specs.declared.table.NodeGroup.{NodeGroup}
use Rattle.uefi_names.specs.declared.table.NodeRow.{NodeRow}
use Rattle.uefi_names.specs.declared.table.Form.{Form}
use Rattle.uefi_names.specs.declared.table.Field.{Field}
use Rattle.uefi_names.specs.declared.table.Word.{Word}
use Rattle.uefi_names.specs.declared.table.When.{When}
use Rattle.uefi_names.specs.declared.table.When.TheVariants.{Always, Byte, Unlike, Bytes, BytesAndByte}
use Rattle.uefi_names.specs.declared.table.DataLen.{DataLen}
use Rattle.uefi_names.specs.declared.table.DataLen.TheVariants.{Exactly, AtLeast, Items}
use Rattle.uefi_names.specs.declared.table.Numeral.TheVariants.{Hexadecimal, Decimal}
use Rattle.uefi_names.specs.declared.table.Item.{Item}
use Rattle.uefi_names.specs.declared.table.Item.TheVariants as items
use Rattle.uefi_names.specs.declared.table.Encoding.{Encoding}
use Rattle.uefi_names.specs.declared.table.Encoding.TheVariants.{Ascii, Utf16}
use Rattle.uefi_names.specs.declared.table.Show.{Show}
use Rattle.uefi_names.specs.declared.table.Show.TheVariants as shows
use Rattle.uefi_names.specs.Table.{to_end}

-- ---- a table, wherever its parts lie in memory

-- a reference to this, of which nothing is said but what it refers to
abbrev pub to : {X : Type 0} → X → Bor X
to x = record { ref_ptr = (0, 0); now = x }

abbrev pub plain_word : Word → Word
plain_word word = record { number = word.number; text = to word.text.now }

abbrev pub plain_show : Show → Show
plain_show (shows.Word mask words otherwise) = shows.Word mask (to (map plain_word words.now)) otherwise
plain_show (shows.Literal text) = shows.Literal (to text.now)
plain_show other = other

abbrev pub plain_field : Field → Field
plain_field field = record { at = field.at; len = field.len; show = plain_show field.show }

abbrev pub plain_when : When → When
plain_when (Bytes at are) = Bytes at (to are.now)
plain_when (BytesAndByte are at mask is) = BytesAndByte (to are.now) at mask is
plain_when other = other

abbrev pub plain_form : Form → Form
plain_form form = record {
  when = plain_when form.when;
  len = form.len;
  name = to form.name.now;
  fields = to (map plain_field form.fields.now);
}

abbrev pub plain_row : NodeRow → NodeRow
plain_row row = record { sub = row.sub; forms = to (map plain_form row.forms.now) }

abbrev pub plain_group : NodeGroup → NodeGroup
plain_group group = record { kind = group.kind; rows = to (map plain_row group.rows.now) }

-- the same table, of whose references nothing is said but what they refer to
abbrev pub plain_table : NodeTable → NodeTable
plain_table table = record { groups = map plain_group table.groups }

-- ---- fields

-- all bits of a number
abbrev pub all_bits : ℕ
all_bits = 18446744073709551615

abbrev pub field_of : ℕ → ℕ → Show → Field
field_of at len show = record { at = at; len = len; show = show }

-- a number in hexadecimal digits, and one in decimal digits
abbrev pub number_at : ℕ → ℕ → Field
number_at at len = field_of at len (shows.Number Hexadecimal)

abbrev pub decimal_at : ℕ → ℕ → Field
decimal_at at len = field_of at len (shows.Number Decimal)

abbrev pub word : ℕ → List ℕ → Word
word n bytes = record { number = n; text = to bytes }

-- the word for these bits of a number, or the bits in hexadecimal digits, or in decimal ones
abbrev pub word_at : ℕ → ℕ → ℕ → List Word → Field
word_at at len mask all = field_of at len (shows.Word mask (to all) Hexadecimal)

abbrev pub word_or_decimal_at : ℕ → ℕ → ℕ → List Word → Field
word_or_decimal_at at len mask all = field_of at len (shows.Word mask (to all) Decimal)

-- this text, whatever the bytes are
abbrev pub always_at : ℕ → ℕ → List ℕ → Field
always_at at len bytes = field_of at len (shows.Literal (to bytes))

-- each byte as two digits, alone and after 0x
abbrev pub digits_at : ℕ → ℕ → Field
digits_at at len = field_of at len shows.Digits

abbrev pub prefixed_at : ℕ → ℕ → Field
prefixed_at at len = field_of at len shows.PrefixedDigits

abbrev pub guid_at : ℕ → Field
guid_at at = field_of at 16 shows.Guid

abbrev pub ipv4_at : ℕ → Field
ipv4_at at = field_of at 4 shows.Ipv4

abbrev pub ipv6_at : ℕ → Field
ipv6_at at = field_of at 16 shows.Ipv6

abbrev pub hardware_id_at : ℕ → Field
hardware_id_at at = field_of at 4 shows.HardwareId

-- of the texts from there to the end, the one that comes after so many others
abbrev pub text_at : ℕ → ℕ → Field
text_at at before = field_of at to_end (shows.Ascii before)

-- the first of two texts from there to the end, of which the other is empty
abbrev pub lone_text_at : ℕ → Field
lone_text_at at = field_of at to_end shows.LoneAscii

-- items of one length from there to the end
abbrev pub each_at : ℕ → ℕ → Item → Field
each_at at len item = field_of at to_end (shows.Each len item)

-- all the data, as all that is in parentheses
abbrev pub whole : Encoding → Field
whole encoding = field_of 0 to_end (shows.Whole encoding)

-- ---- forms and rows

abbrev pub form_of : When → DataLen → List ℕ → List Field → Form
form_of when len name all = record { when = when; len = len; name = to name; fields = to all }

abbrev pub row_of_forms : ℕ → List Form → NodeRow
row_of_forms sub all = record { sub = sub; forms = to all }

-- a row of one form
abbrev pub row_of : ℕ → DataLen → List ℕ → List Field → NodeRow
row_of sub len name all = row_of_forms sub (form_of Always len name all ∷ [])

-- the data have this byte at an offset, or a byte with these bits of a mask, or another byte, or one with other bits, or
-- these bytes
abbrev pub has_byte : ℕ → ℕ → When
has_byte at byte = Byte at 0xFF byte

abbrev pub has_bits : ℕ → ℕ → ℕ → When
has_bits at mask bits = Byte at mask bits

abbrev pub has_another_byte : ℕ → ℕ → When
has_another_byte at byte = Unlike at 0xFF byte

abbrev pub has_other_bits : ℕ → ℕ → ℕ → When
has_other_bits at mask bits = Unlike at mask bits

abbrev pub has_bytes : ℕ → List ℕ → When
has_bytes at bytes = Bytes at (to bytes)

-- these bytes first, and a byte at an offset with these bits of a mask
abbrev pub has_bytes_and_bits : List ℕ → ℕ → ℕ → ℕ → When
has_bytes_and_bits bytes at mask bits = BytesAndByte (to bytes) at mask bits

-- ---- the rows

-- 10.3.2
abbrev pub hardware_rows : List NodeRow
hardware_rows =
    row_of 2 (Exactly 1) (codes "PcCard") (number_at 0 1 ∷ [])
    ∷ row_of 3 (Exactly 20) (codes "MemoryMapped") (number_at 0 4 ∷ number_at 4 8 ∷ number_at 12 8 ∷ [])
    ∷ row_of 5 (Exactly 4) (codes "Ctrl") (number_at 0 4 ∷ [])
    ∷ row_of 6 (Exactly 9) (codes "BMC") (number_at 0 1 ∷ number_at 1 8 ∷ [])
    ∷ []

-- 10.3.3: the devices whose identifier is `PNP` and these two bytes
abbrev pub acpi_device : ℕ → ℕ → List ℕ → Form
acpi_device high low name = form_of (has_bytes 0 (0xD0 ∷ 0x41 ∷ low ∷ high ∷ [])) (Exactly 8) name (number_at 4 4 ∷ [])

abbrev pub acpi_devices : List Form
acpi_devices =
    acpi_device 0x06 0x04 (codes "Floppy") ∷ acpi_device 0x03 0x01 (codes "Keyboard") ∷ acpi_device 0x05 0x01 (codes "Serial")
    ∷ acpi_device 0x04 0x01 (codes "ParallelPort") ∷ []

abbrev pub extended_acpi : List Form
extended_acpi =
    form_of Always (AtLeast 16) (codes "AcpiExp") (hardware_id_at 0 ∷ always_at 8 4 (codes "0") ∷ lone_text_at 13 ∷ [])
    ∷ form_of Always (AtLeast 16) (codes "AcpiExp") (hardware_id_at 0 ∷ hardware_id_at 8 ∷ lone_text_at 13 ∷ [])
    ∷ form_of Always (AtLeast 15) (codes "AcpiEx")
    (hardware_id_at 0 ∷ hardware_id_at 8 ∷ number_at 4 4 ∷ text_at 12 0 ∷ text_at 12 2 ∷ text_at 12 1 ∷ [])
    ∷ []

-- 10.3.3
abbrev pub acpi_rows : List NodeRow
acpi_rows =
    row_of_forms 1 acpi_devices
    ∷ row_of_forms 2 extended_acpi
    ∷ row_of 3 (Items 4 4) (codes "AcpiAdr") (each_at 0 4 items.Number ∷ [])
    ∷ row_of 4 (Exactly 4) (codes "AcpiNVDIMM") (number_at 0 4 ∷ [])
    ∷ []

-- 10.3.4.9: the forms of USB devices of a class, and of a sub-class of the class 0xFE
abbrev pub usb_class : ℕ → List ℕ → Form
usb_class class name =
    form_of (has_byte 4 class) (Exactly 7) name (number_at 0 2 ∷ number_at 2 2 ∷ number_at 5 1 ∷ number_at 6 1 ∷ [])

abbrev pub usb_application : ℕ → List ℕ → Form
usb_application subclass name =
    form_of (has_bytes 4 (0xFE ∷ subclass ∷ [])) (Exactly 7) name (number_at 0 2 ∷ number_at 2 2 ∷ number_at 6 1 ∷ [])

abbrev pub usb_forms : List Form
usb_forms =
    usb_class 0x01 (codes "UsbAudio")
    ∷ usb_class 0x02 (codes "UsbCDCControl")
    ∷ usb_class 0x03 (codes "UsbHID")
    ∷ usb_class 0x06 (codes "UsbImage")
    ∷ usb_class 0x07 (codes "UsbPrinter")
    ∷ usb_class 0x08 (codes "UsbMassStorage")
    ∷ usb_class 0x09 (codes "UsbHub")
    ∷ usb_class 0x0A (codes "UsbCDCData")
    ∷ usb_class 0x0B (codes "UsbSmartCard")
    ∷ usb_class 0x0E (codes "UsbVideo")
    ∷ usb_class 0xDC (codes "UsbDiagnostic")
    ∷ usb_class 0xE0 (codes "UsbWireless")
    ∷ usb_application 0x01 (codes "UsbDeviceFirmwareUpdate")
    ∷ usb_application 0x02 (codes "UsbIrdaBridge")
    ∷ usb_application 0x03 (codes "UsbTestAndMeasurement")
    ∷ form_of Always (Exactly 7) (codes "UsbClass")
    (number_at 0 2 ∷ number_at 2 2 ∷ number_at 4 1 ∷ number_at 5 1 ∷ number_at 6 1 ∷ [])
    ∷ []

-- 10.3.4.19 and 10.3.4.20: what the topology of a SAS device at an offset says, by its low and high bits: nothing,
-- where the device is, the same and its drive, or something else
abbrev pub sas_place : ℕ → List Field
sas_place at =
    word_at at 1 0x10 (word 0 (codes "SAS") ∷ word 0x10 (codes "SATA") ∷ [])
    ∷ word_at at 1 0x20 (word 0 (codes "Internal") ∷ word 0x20 (codes "External") ∷ [])
    ∷ word_at at 1 0x40 (word 0 (codes "Direct") ∷ word 0x40 (codes "Expanded") ∷ []) ∷ []

abbrev pub sas_zeros : ℕ → List Field
sas_zeros at = always_at at 2 (codes "0") ∷ always_at at 2 (codes "0") ∷ always_at at 2 (codes "0") ∷ []

abbrev pub sas_nothing : ℕ → List Field
sas_nothing at = always_at at 2 (codes "NoTopology") ∷ sas_zeros at

abbrev pub sas_no_drive : ℕ → List Field
sas_no_drive at = sas_place at ++ always_at (at + 1) 1 (codes "0") ∷ []

abbrev pub sas_drive : ℕ → List Field
sas_drive at = sas_place at ++ field_of (at + 1) 1 shows.OneMore ∷ []

abbrev pub sas_other : ℕ → List Field
sas_other at = number_at at 2 ∷ sas_zeros at

abbrev pub sas_form : When → List Field → Form
sas_form when topology =
    form_of when (Exactly 20) (codes "SasEx") (prefixed_at 0 8 ∷ prefixed_at 8 8 ∷ number_at 18 2 ∷ topology)

abbrev pub sas_forms : List Form
sas_forms =
    sas_form (has_bits 16 0x8F 0) (sas_nothing 16)
    ∷ sas_form (has_bits 16 0x8F 1) (sas_no_drive 16)
    ∷ sas_form (has_bits 16 0x8F 2) (sas_drive 16)
    ∷ sas_form Always (sas_other 16)
    ∷ []

-- the GUIDs of terminals, of the flow control of a serial line, of a debug port and of SAS devices, as they are stored
abbrev pub pc_ansi : List ℕ
pc_ansi =
    0x53 ∷ 0x47 ∷ 0xC1 ∷ 0xE0 ∷ 0xBE ∷ 0xF9 ∷ 0xD2 ∷ 0x11 ∷ 0x9A ∷ 0x0C ∷ 0x00 ∷ 0x90 ∷ 0x27 ∷ 0x3F ∷ 0xC1 ∷ 0x4D ∷ []

abbrev pub vt_100 : List ℕ
vt_100 =
    0x65 ∷ 0x60 ∷ 0xA6 ∷ 0xDF ∷ 0x19 ∷ 0xB4 ∷ 0xD3 ∷ 0x11 ∷ 0x9A ∷ 0x2D ∷ 0x00 ∷ 0x90 ∷ 0x27 ∷ 0x3F ∷ 0xC1 ∷ 0x4D ∷ []

abbrev pub vt_100_plus : List ℕ
vt_100_plus =
    0x0B ∷ 0xC7 ∷ 0xAE ∷ 0x7B ∷ 0xE0 ∷ 0x57 ∷ 0x76 ∷ 0x4C ∷ 0x8E ∷ 0x87 ∷ 0x2F ∷ 0x9E ∷ 0x28 ∷ 0x08 ∷ 0x83 ∷ 0x43 ∷ []

abbrev pub vt_utf8 : List ℕ
vt_utf8 =
    0xD6 ∷ 0xA0 ∷ 0x15 ∷ 0xAD ∷ 0xEC ∷ 0x8B ∷ 0xCF ∷ 0x4A ∷ 0xA0 ∷ 0x73 ∷ 0xD0 ∷ 0x1D ∷ 0xE7 ∷ 0x7E ∷ 0x2D ∷ 0x88 ∷ []

abbrev pub uart_flow_control : List ℕ
uart_flow_control =
    0x9D ∷ 0x9A ∷ 0x49 ∷ 0x37 ∷ 0x2F ∷ 0x54 ∷ 0x89 ∷ 0x4C ∷ 0xA0 ∷ 0x26 ∷ 0x35 ∷ 0xDA ∷ 0x14 ∷ 0x20 ∷ 0x94 ∷ 0xE4 ∷ []

abbrev pub debug_port : List ℕ
debug_port =
    0xD2 ∷ 0xE8 ∷ 0xA4 ∷ 0xEB ∷ 0x58 ∷ 0x38 ∷ 0xEC ∷ 0x41 ∷ 0xA2 ∷ 0x81 ∷ 0x26 ∷ 0x47 ∷ 0xBA ∷ 0x96 ∷ 0x60 ∷ 0xD0 ∷ []

abbrev pub sas_guid : List ℕ
sas_guid =
    0xB4 ∷ 0xDD ∷ 0x87 ∷ 0xD4 ∷ 0x8B ∷ 0x00 ∷ 0xD9 ∷ 0x11 ∷ 0xAF ∷ 0xDC ∷ 0x00 ∷ 0x10 ∷ 0x83 ∷ 0xFF ∷ 0xCA ∷ 0x4D ∷ []

-- 10.3.4.17 to 10.3.4.19: the forms of vendors' nodes, by their GUIDs as these are stored
abbrev pub vendor : List ℕ → ℕ → List ℕ → List Field → Form
vendor guid len name all = form_of (has_bytes 0 guid) (Exactly len) name all

-- those of SAS devices, with an address, a logical unit, a port, the topology and what is reserved
abbrev pub vendor_sas : When → List Field → Form
vendor_sas when topology =
    form_of when (Exactly 40) (codes "SAS")
    (number_at 20 8 ∷ number_at 28 8 ∷ number_at 38 2 ∷ (topology ++ number_at 16 4 ∷ []))

abbrev pub vendor_sas_forms : List Form
vendor_sas_forms =
    vendor_sas (has_bytes_and_bits sas_guid 36 0x8F 0) (sas_nothing 36)
    ∷ vendor_sas (has_bytes_and_bits sas_guid 36 0x8F 1) (sas_no_drive 36)
    ∷ vendor_sas (has_bytes_and_bits sas_guid 36 0x8F 2) (sas_drive 36)
    ∷ vendor_sas (has_bytes 0 sas_guid) (sas_other 36)
    ∷ []

abbrev pub vendor_forms : List Form
vendor_forms =
    vendor pc_ansi 16 (codes "VenPcAnsi") []
    ∷ vendor vt_100 16 (codes "VenVt100") []
    ∷ vendor vt_100_plus 16 (codes "VenVt100Plus") []
    ∷ vendor vt_utf8 16 (codes "VenUtf8") []
    ∷ vendor uart_flow_control 20 (codes "UartFlowCtrl")
    (word_at 16 4 all_bits (word 0 (codes "None") ∷ word 1 (codes "Hardware") ∷ word 2 (codes "XonXoff") ∷ []) ∷ [])
    ∷ vendor debug_port 16 (codes "DebugPort") []
    ∷ vendor_sas_forms

-- 10.3.4.12 and 10.3.4.13: what a network carries
abbrev pub protocol_at : ℕ → Field
protocol_at at = word_at at 2 all_bits (word 6 (codes "TCP") ∷ word 17 (codes "UDP") ∷ [])

-- 10.3.4.13
abbrev pub ipv6_origin : Field
ipv6_origin =
    word_at 38 1 all_bits
    (word 0 (codes "Static") ∷ word 1 (codes "StatelessAutoConfigure") ∷ word 2 (codes "StatefulAutoConfigure") ∷ [])

-- 10.3.4.13, and its older form without the last two fields
abbrev pub ipv6_forms : List Form
ipv6_forms =
    form_of Always (Exactly 56) (codes "IPv6")
    (ipv6_at 16 ∷ protocol_at 36 ∷ ipv6_origin ∷ ipv6_at 0 ∷ number_at 39 1 ∷ ipv6_at 40 ∷ [])
    ∷ form_of Always (Exactly 39) (codes "IPv6") (ipv6_at 16 ∷ protocol_at 36 ∷ ipv6_origin ∷ ipv6_at 0 ∷ [])
    ∷ []

-- 10.3.4: buses and drives
abbrev pub storage_rows : List NodeRow
storage_rows =
    row_of 1 (Exactly 4) (codes "Ata")
    (word_at 0 1 all_bits (word 0 (codes "Primary") ∷ word 1 (codes "Secondary") ∷ [])
    ∷ word_at 1 1 all_bits (word 0 (codes "Master") ∷ word 1 (codes "Slave") ∷ []) ∷ number_at 2 2 ∷ [])
    ∷ row_of 2 (Exactly 4) (codes "Scsi") (number_at 0 2 ∷ number_at 2 2 ∷ [])
    ∷ row_of 3 (Exactly 20) (codes "Fibre") (number_at 4 8 ∷ number_at 12 8 ∷ [])
    ∷ row_of 4 (Exactly 12) (codes "I1394") (field_of 4 8 shows.AllDigits ∷ [])
    ∷ row_of 6 (Exactly 4) (codes "I2O") (number_at 0 4 ∷ [])
    ∷ row_of 9 (Exactly 44) (codes "Infiniband")
    (number_at 0 4 ∷ guid_at 4 ∷ number_at 20 8 ∷ number_at 28 8 ∷ number_at 36 8 ∷ [])
    ∷ row_of 17 (Exactly 1) (codes "Unit") (number_at 0 1 ∷ [])
    ∷ row_of 19 (AtLeast 14) (codes "iSCSI")
    (text_at 14 0 ∷ number_at 12 2 ∷ prefixed_at 4 8
    ∷ word_at 2 2 0x3 (word 0 (codes "None") ∷ word 2 (codes "CRC32C") ∷ [])
    ∷ word_at 2 2 0xC (word 0 (codes "None") ∷ word 8 (codes "CRC32C") ∷ [])
    ∷ word_at 2 2 0x1C00
    (word 0 (codes "CHAP_BI") ∷ word 0x1000 (codes "CHAP_UNI") ∷ word 0x800 (codes "None")
    ∷ word 0x1800 (codes "None") ∷ [])
    ∷ word_at 0 2 all_bits (word 0 (codes "TCP") ∷ []) ∷ [])
    ∷ row_of 21 (Exactly 20) (codes "FibreEx") (prefixed_at 4 8 ∷ prefixed_at 12 8 ∷ [])
    ∷ row_of_forms 22 sas_forms
    ∷ row_of 25 (Exactly 2) (codes "UFS") (number_at 0 1 ∷ number_at 1 1 ∷ [])
    ∷ row_of 26 (Exactly 1) (codes "SD") (number_at 0 1 ∷ [])
    ∷ row_of 29 (Exactly 1) (codes "eMMC") (number_at 0 1 ∷ [])
    ∷ row_of 32 (Exactly 16) (codes "NVDIMM") (guid_at 0 ∷ [])
    ∷ row_of 34 (AtLeast 18) (codes "NVMEoF") (text_at 17 0 ∷ number_at 0 1 ∷ digits_at 1 16 ∷ [])
    ∷ []

-- 10.3.4.17
abbrev pub vendor_rows : List NodeRow
vendor_rows =
    row_of_forms 10 vendor_forms
    ∷ []

-- 10.3.4: networks and serial lines
abbrev pub network_rows : List NodeRow
network_rows =
    row_of_forms 11
    (form_of (has_other_bits 32 0xFE 0) (Exactly 33) (codes "MAC") (digits_at 0 32 ∷ number_at 32 1 ∷ []) ∷ [])
    ∷ row_of 12 (Exactly 15) (codes "IPv4")
    (ipv4_at 4 ∷ protocol_at 12 ∷ word_at 14 1 all_bits (word 0 (codes "DHCP") ∷ word 1 (codes "Static") ∷ []) ∷ ipv4_at 0
    ∷ [])
    ∷ row_of_forms 13 ipv6_forms
    ∷ row_of 14 (Exactly 15) (codes "Uart")
    (word_or_decimal_at 4 8 all_bits (word 0 (codes "DEFAULT") ∷ [])
    ∷ word_or_decimal_at 12 1 all_bits (word 0 (codes "DEFAULT") ∷ [])
    ∷ word_at 13 1 all_bits
    (word 0 (codes "D") ∷ word 1 (codes "N") ∷ word 2 (codes "E") ∷ word 3 (codes "O") ∷ word 4 (codes "M")
    ∷ word 5 (codes "S") ∷ [])
    ∷ word_at 14 1 all_bits
    (word 0 (codes "D") ∷ word 1 (codes "1") ∷ word 2 (codes "1.5") ∷ word 3 (codes "2") ∷ []) ∷ [])
    ∷ row_of 24 (AtLeast 1) (codes "Uri") (whole Ascii ∷ [])
    ∷ row_of 27 (Exactly 6) (codes "Bluetooth") (digits_at 0 6 ∷ [])
    ∷ row_of 28 (Exactly 32) (codes "Wi-Fi") (field_of 0 32 (shows.Ascii 0) ∷ [])
    ∷ row_of 30 (Exactly 7) (codes "BluetoothLE") (digits_at 0 6 ∷ number_at 6 1 ∷ [])
    ∷ row_of_forms 31
    (form_of (has_byte 0 0) (Items 17 16) (codes "Dns") (each_at 1 16 items.Ipv4 ∷ [])
    ∷ form_of (has_byte 0 1) (Items 17 16) (codes "Dns") (each_at 1 16 items.Ipv6 ∷ []) ∷ [])
    ∷ row_of_forms 33
    (form_of (has_byte 0 0xFF) (Exactly 18) (codes "RestService") (number_at 0 1 ∷ number_at 1 1 ∷ guid_at 2 ∷ [])
    ∷ form_of (has_byte 0 0xFF) (AtLeast 19) (codes "RestService")
    (number_at 0 1 ∷ number_at 1 1 ∷ guid_at 2 ∷ digits_at 18 to_end ∷ [])
    ∷ form_of (has_another_byte 0 0xFF) (Exactly 2) (codes "RestService") (number_at 0 1 ∷ number_at 1 1 ∷ []) ∷ [])
    ∷ []

-- 10.3.4: USB
abbrev pub usb_rows : List NodeRow
usb_rows =
    row_of_forms 15 usb_forms
    ∷ row_of 16 (Items 6 2) (codes "UsbWwid")
    (number_at 2 2 ∷ number_at 4 2 ∷ number_at 0 2 ∷ field_of 6 to_end shows.Units ∷ [])
    ∷ []

-- 10.3.5.9: the forms of RAM disks, by the GUIDs of their types as these are stored
abbrev pub ram_disk : List ℕ → List ℕ → Form
ram_disk guid name =
    form_of (has_bytes 16 guid) (Exactly 34) name (number_at 0 8 ∷ number_at 8 8 ∷ decimal_at 32 2 ∷ [])

abbrev pub ram_disk_forms : List Form
ram_disk_forms =
    ram_disk
    (0x5A ∷ 0x53 ∷ 0xAB ∷ 0x77 ∷ 0xFC ∷ 0x45 ∷ 0x4B ∷ 0x62 ∷ 0x55 ∷ 0x60 ∷ 0xF7 ∷ 0xB2 ∷ 0x81 ∷ 0xD1 ∷ 0xF9 ∷ 0x6E ∷ [])
    (codes "VirtualDisk")
    ∷ ram_disk
    (0x30 ∷ 0xBD ∷ 0x5A ∷ 0x3D ∷ 0x75 ∷ 0x41 ∷ 0xCE ∷ 0x87 ∷ 0x6D ∷ 0x64 ∷ 0xD2 ∷ 0xAD ∷ 0xE5 ∷ 0x23 ∷ 0xC4 ∷ 0xBB ∷ [])
    (codes "VirtualCD")
    ∷ ram_disk
    (0xC9 ∷ 0x02 ∷ 0xEA ∷ 0x5C ∷ 0x07 ∷ 0x4D ∷ 0xD3 ∷ 0x69 ∷ 0x26 ∷ 0x9F ∷ 0x44 ∷ 0x96 ∷ 0xFB ∷ 0xE0 ∷ 0x96 ∷ 0xF9 ∷ [])
    (codes "PersistentVirtualDisk")
    ∷ ram_disk
    (0x88 ∷ 0x81 ∷ 0x01 ∷ 0x08 ∷ 0xCD ∷ 0x42 ∷ 0x48 ∷ 0xBB ∷ 0x10 ∷ 0x0F ∷ 0x53 ∷ 0x87 ∷ 0xD5 ∷ 0x3D ∷ 0xED ∷ 0x3D ∷ [])
    (codes "PersistentVirtualCD")
    ∷ form_of Always (Exactly 34) (codes "RamDisk")
    (number_at 0 8 ∷ number_at 8 8 ∷ decimal_at 32 2 ∷ guid_at 16 ∷ [])
    ∷ []

-- 10.3.5
abbrev pub media_rows : List NodeRow
media_rows =
    row_of 1 (Exactly 38) (codes "HD")
    (decimal_at 0 4 ∷ decimal_at 37 1 ∷ always_at 20 16 (codes "0") ∷ number_at 4 8 ∷ number_at 12 8 ∷ [])
    ∷ row_of 4 (AtLeast 4) (codes "File") (whole Utf16 ∷ [])
    ∷ row_of 5 (Exactly 16) (codes "Media") (guid_at 0 ∷ [])
    ∷ row_of 6 (Exactly 16) (codes "FvFile") (guid_at 0 ∷ [])
    ∷ row_of 7 (Exactly 16) (codes "Fv") (guid_at 0 ∷ [])
    ∷ row_of 8 (Exactly 20) (codes "Offset") (number_at 4 8 ∷ number_at 12 8 ∷ [])
    ∷ row_of_forms 9 ram_disk_forms
    ∷ []

-- 10.3.6
abbrev pub bios_boot_rows : List NodeRow
bios_boot_rows =
    row_of 1 (AtLeast 5) (codes "BBS")
    (word_at 0 2 all_bits
    (word 1 (codes "Floppy") ∷ word 2 (codes "HD") ∷ word 3 (codes "CDROM") ∷ word 4 (codes "PCMCIA")
    ∷ word 5 (codes "USB") ∷ word 6 (codes "Network") ∷ [])
    ∷ text_at 4 0 ∷ number_at 2 2 ∷ [])
    ∷ []

-- the rows of a type
abbrev pub group_of : ℕ → List NodeRow → NodeGroup
group_of kind rows = record { kind = kind; rows = to rows }

-- the table
unfoldable pub standard_table : NodeTable
standard_table = record {
  groups =
      group_of 1 hardware_rows ∷ group_of 2 acpi_rows ∷ group_of 3 storage_rows ∷ group_of 3 vendor_rows
      ∷ group_of 3 network_rows ∷ group_of 3 usb_rows ∷ group_of 4 media_rows ∷ group_of 5 bios_boot_rows ∷ [];
}
