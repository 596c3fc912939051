-- The vendors' nodes that libefivar 37 prints by a name.
use Rattle.std.specs.Prelude.{ℕ, ◌==◌, ◌&&◌, nat_le, List, [], ◌∷◌, length, take, Option, Some, None, codes}
use Rattle.std.specs.Prelude.{if◌then◌else◌}
use Rattle.std.specs.Cmp.Lexicographic.{pointwise}
use Rattle.std.specs.Fmt.{signed_decimal}
use Rattle.std.specs.Int.{w32, from_le_bytes, cast_signed}
use Rattle.std.specs.List.{find}
use Rattle.std.specs.Option.{option_map}
use Rattle.uefi_path.specs.declared.node.Node.{Node}
use Rattle.uefi_path.specs.Parts.{VendorParts}
use Rattle.uefi_text.specs.Number.{number_text}
use Rattle.uefi_text.specs.Bytes.{hex_text}
use Rattle.uefi_text.specs.Segment.{named, segment_text}
use Rattle.uefi_text.specs.Printed.{node_text}
use Rattle.uefi_names.specs.Standard.{pc_ansi, vt_100, vt_100_plus, vt_utf8, debug_port, uart_flow_control}

-- the identifier of a disk of a BIOS, as it is stored
abbrev pub edd : List ℕ
edd = 0xC5 ∷ 0xFA ∷ 0x31 ∷ 0xCF ∷ 0x4E ∷ 0xC2 ∷ 0xD2 ∷ 0x11 ∷ 0x85 ∷ 0xF3 ∷ 0x00 ∷ 0xA0 ∷ 0xC9 ∷ 0x3E ∷ 0xC9 ∷ 0x3B ∷ []

-- ---- nodes

-- the number that the data of the nodes with this identifier begin with; other nodes have none, nor do shorter data
abbrev pub number_of : List ℕ → VendorParts → Option ℕ
number_of guid vendor =
    if pointwise ◌==◌ vendor.guid guid && nat_le 4 (length vendor.body)
    then Some (from_le_bytes w32 (take 4 vendor.body))
    else None

abbrev pub hardware_of : Option ℕ → Node → List ℕ
hardware_of (Some number) node = segment_text (named (codes "EDD10") (number_text number ∷ []))
hardware_of None node = node_text node

-- a hardware node, which holds this
abbrev pub hardware_text : Node → VendorParts → List ℕ
hardware_text node vendor = hardware_of (number_of edd vendor) node

-- how the flow on a serial line is controlled: a word, or another number with its sign
abbrev pub flow_word : ℕ → List ℕ
flow_word kind =
    if kind == 0 then codes "None"
    else (if kind == 1 then codes "Hardware"
    else (if kind == 2 then codes "XonXoff"
    else signed_decimal (cast_signed w32 kind)))

abbrev pub flow_text : ℕ → List ℕ
flow_text kind = segment_text (named (codes "UartFlowControl") (flow_word kind ∷ []))

-- the nodes with an identifier that have a name, and whose data may be any bytes
pub record Device : Type 0 where
  pub guid : List ℕ
  pub name : List ℕ

abbrev pub device : List ℕ → List ℕ → Device
device guid name = record { guid = guid; name = name }

abbrev pub devices : List Device
devices =
    device pc_ansi (codes "VenPcAnsi")
    ∷ device vt_100 (codes "VenVt100")
    ∷ device vt_100_plus (codes "VenVt100Plus")
    ∷ device vt_utf8 (codes "VenUtf8")
    ∷ device debug_port (codes "DebugPort")
    ∷ []

abbrev pub device_name : List ℕ → Option (List ℕ)
device_name guid = option_map (λ device. device.name) (find (λ device. pointwise ◌==◌ device.guid guid) devices)

abbrev pub device_text : Option (List ℕ) → Node → List ℕ → List ℕ
device_text (Some name) node body = segment_text (named name (hex_text body ∷ []))
device_text None node body = node_text node

abbrev pub messaging_of : Option ℕ → Node → VendorParts → List ℕ
messaging_of (Some kind) node vendor = flow_text kind
messaging_of None node vendor = device_text (device_name vendor.guid) node vendor.body

-- a messaging node, which holds this
abbrev pub messaging_text : Node → VendorParts → List ℕ
messaging_text node vendor = messaging_of (number_of uart_flow_control vendor) node vendor
