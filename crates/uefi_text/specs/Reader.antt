-- For private functions of the reader: what a text is read as, as functions of its arguments.
use Rattle.std.specs.Prelude.{◌≡◌, ◌≤◌, ◌^◌, ℕ, ◌+◌, ◌*◌, ◌%◌, Bool, ◌==◌, ◌&&◌, nat_lt, nat_le, List, [], ◌∷◌, ◌++◌}
use Rattle.std.specs.Prelude.{length, drop, slice_index, replicate, codes, Option, Some, None, Result, Ok, Err}
use Rattle.std.specs.Prelude.{if◌then◌else◌}
use Rattle.std.specs.Char.{digit_value}
use Rattle.std.specs.List.{list_all, slice_split}
use Rattle.std.specs.Cmp.Lexicographic.{pointwise}
use Rattle.std.specs.Option.{option_map}
use Rattle.std.specs.Result.{result_ok}
use Rattle.hex.specs.Hex.{decode_sized}
use Rattle.uuid.specs.Text.{parsed}
use Rattle.uuid.specs.Parts.{swap_fields}
use Rattle.std.specs.Str.Parse.{digits_value}
use Rattle.std.specs.Int.{w32, to_le_bytes}
use Rattle.uefi_path.specs.declared.node.Node.{Node}
use Rattle.uefi_path.specs.declared.node.Node.TheVariants.{Pci, Acpi, Usb, Mac, Ipv4, Sata, Vlan, Nvme, HardDrive, Cdrom}
use Rattle.uefi_path.specs.declared.node.Node.TheVariants.{Uri, FilePath, VendorHw, VendorMsg, VendorMedia}
use Rattle.uefi_text.specs.declared.fault.SegmentFault.{SegmentFault}
use Rattle.uefi_text.specs.declared.fault.SegmentFault.TheVariants.{BadSegment, BadNumber, OutOfRange, BadEnd, OutOfMemory}
use Rattle.uefi_path.specs.Parts.{ipv4_parts, hard_drive_parts, VendorParts, vendor_parts}
use Rattle.uefi_path.specs.Row.{Row, row}
use Rattle.uefi_path.specs.Standard.{body_max, vendor_body_max, path_name_max}
use Rattle.uefi_path.specs.Node.{row_of, IsNode}
use Rattle.uefi_text.specs.Printed.{is_plain_from}
use Rattle.uefi_text.specs.Bytes.{dot, hyphen}
use Rattle.uefi_text.specs.Segment.{comma}
use Rattle.uefi_text.specs.Node.{pnp_hid}

-- the second step, if the first gave a value
infixl 10 ◌>>=◌
abbrev pub ◌>>=◌ : {A B : Type 0} → Option A → (A → Option B) → Option B
Some x >>= f = f x
None >>= f = None

-- what the fault says: that there is nothing or, if it is out of memory, the other
abbrev pub Tells : SegmentFault → Type 0 → Type 0 → Type 0
Tells BadSegment nothing wanted = nothing
Tells (BadNumber _) nothing wanted = nothing
Tells (OutOfRange _) nothing wanted = nothing
Tells BadEnd nothing wanted = nothing
Tells OutOfMemory nothing wanted = wanted

-- the answer, seen by view, is what is read, and a fault comes if nothing is; memory isn't taken
abbrev pub ReadsAs : {X Y : Type 0} → (X → Y) → Result X SegmentFault → Option Y → Type 0
ReadsAs view (Ok x) read = read ≡ Some (view x)
ReadsAs view (Err fault) read = Tells fault (read ≡ None) ⊥

-- the answer is what is read, or a fault if nothing is
abbrev pub Reads : {X : Type 0} → Result X SegmentFault → Option X → Type 0
Reads = ReadsAs (λ x. x)

-- the same, if memory is taken, but refused only if something is read
abbrev pub Makes : {X : Type 0} → Result X SegmentFault → Option X → Type 0
Makes (Ok x) read = read ≡ Some x
Makes {X} (Err fault) read = Tells fault (read ≡ None) ((x : X) × (read ≡ Some x))

-- the parts that a text is cut into at each mark, and its arguments
abbrev pub parts_of : ℕ → List ℕ → List (List ℕ)
parts_of mark text = slice_split (λ byte. byte == mark) text

abbrev pub arguments_of : List ℕ → List (List ℕ)
arguments_of text = parts_of comma text

-- one, two or three arguments, or the first one or two of more
abbrev pub one_of : List (List ℕ) → Option (List ℕ)
one_of (a ∷ []) = Some a
one_of _ = None

abbrev pub first_of : List (List ℕ) → Option (List ℕ × List (List ℕ))
first_of (a ∷ b ∷ others) = Some (a, b ∷ others)
first_of _ = None

unfoldable pub two_of : List (List ℕ) → Option (List ℕ × List ℕ)
two_of arguments = do
  parts ← first_of arguments
  second ← one_of parts.1
  Some (parts.0, second)

unfoldable pub first_two_of : List (List ℕ) → Option (List ℕ × List ℕ × List (List ℕ))
first_two_of arguments = do
  first ← first_of arguments
  second ← first_of first.1
  Some (first.0, second.0, second.1)

unfoldable pub three_of : List (List ℕ) → Option (List ℕ × List ℕ × List ℕ)
three_of arguments = do
  parts ← first_of arguments
  two ← two_of parts.1
  Some (parts.0, two.0, two.1)

abbrev pub is_numeral : ℕ → ℕ → List ℕ → Bool
is_numeral base most digits =
    nat_lt 0 (length digits)
    && (nat_le (length digits) most && list_all (λ digit. nat_lt (digit_value digit) base) digits)

-- the number of at most this many digits
unfoldable pub numeral_of : ℕ → ℕ → List ℕ → Option ℕ
numeral_of base most digits = if is_numeral base most digits then Some (digits_value base digits) else None

abbrev pub begins_hexadecimal : List ℕ → Bool
begins_hexadecimal text = (slice_index text 0 == 48) && (slice_index text 1 == 120)

-- the number that a text is read as
unfoldable pub number_of : List ℕ → Option ℕ
number_of text = if begins_hexadecimal text then numeral_of 16 16 (drop 2 text) else numeral_of 10 20 text

-- the answer is the number; inside it None stands for one that 64 bits can't hold
abbrev pub TellsNumber : Option (Option ℕ) → Option ℕ → Type 0
TellsNumber None read = read ≡ None
TellsNumber (Some None) read = (n : ℕ) × (read ≡ Some n) × (2 ^ 64 ≤ n)
TellsNumber (Some (Some value)) read = read ≡ Some value

-- the same, if it is at most this large
unfoldable pub number_up_to : ℕ → List ℕ → Option ℕ
number_up_to most text = do
  n ← number_of text
  if nat_le n most then Some n else None

-- a part of an address, and the four of them
unfoldable pub octet_of : List ℕ → Option ℕ
octet_of text = do
  n ← numeral_of 10 3 text
  if nat_le n 255 then Some n else None

unfoldable pub address_of : List (List ℕ) → Option (List ℕ)
address_of parts = do
  front ← first_two_of parts
  back ← two_of front.2
  a ← octet_of front.0
  b ← octet_of front.1
  c ← octet_of back.0
  d ← octet_of back.1
  Some (a ∷ b ∷ c ∷ d ∷ [])

-- the byte of two digits
abbrev pub pair_of : ℕ → ℕ → Option ℕ
pair_of high low =
    if nat_lt (digit_value high) 16 && nat_lt (digit_value low) 16
    then Some (digit_value high * 16 + digit_value low) else None

abbrev pub byte_of : List ℕ → Option ℕ
byte_of [] = None
byte_of (_ ∷ []) = None
byte_of (high ∷ low ∷ []) = pair_of high low
byte_of (_ ∷ _ ∷ _ ∷ _) = None

unfoldable pub two_bytes_of : List ℕ → List ℕ → Option (ℕ × ℕ)
two_bytes_of first second = do
  a ← byte_of first
  b ← byte_of second
  Some (a, b)

unfoldable pub eui_of : List (List ℕ) → Option (List ℕ)
eui_of parts = do
  first ← first_two_of parts
  second ← first_two_of first.2
  third ← first_two_of second.2
  last ← two_of third.2
  a ← two_bytes_of first.0 first.1
  b ← two_bytes_of second.0 second.1
  c ← two_bytes_of third.0 third.1
  d ← two_bytes_of last.0 last.1
  Some (a.0 ∷ a.1 ∷ b.0 ∷ b.1 ∷ c.0 ∷ c.1 ∷ d.0 ∷ d.1 ∷ [])

-- the stored bytes of a GUID
abbrev pub guid_read : List ℕ → Option (List ℕ)
guid_read text = if length text == 36 then option_map swap_fields (parsed text) else None

-- pairs of digits, and the bytes that they write
abbrev pub is_data : List ℕ → Bool
is_data text = (length text % 2 == 0) && list_all (λ digit. nat_lt (digit_value digit) 16) text

abbrev pub data_bytes : List ℕ → List ℕ
data_bytes [] = []
data_bytes (_ ∷ []) = []
data_bytes (high ∷ low ∷ text) = (digit_value high * 16 + digit_value low) ∷ data_bytes text

-- an address of six bytes
abbrev pub mac_of : List ℕ → Option (List ℕ)
mac_of text = option_map (λ six. six ++ replicate 26 0) (result_ok (decode_sized text 6))

-- an identifier that begins with PNP, and one in any form
unfoldable pub pnp_of : List ℕ → Option ℕ
pnp_of digits =
    if length digits == 4
    then (numeral_of 16 4 digits >>= λ high. (if nat_le high 0xFFFF then Some (pnp_hid high) else None))
    else None

abbrev pub begins_pnp : List ℕ → Bool
begins_pnp text = (slice_index text 0 == 80) && ((slice_index text 1 == 78) && (slice_index text 2 == 80))

unfoldable pub hid_of : List ℕ → Option ℕ
hid_of text = if begins_pnp text then pnp_of (drop 3 text) else number_up_to 0xFFFFFFFF text

abbrev pub is_text : List ℕ → List ℕ → Bool
is_text text expected = pointwise ◌==◌ text expected

abbrev pub origin_of : List ℕ → Option ℕ
origin_of text =
    if is_text text (codes "DHCP") then Some 0 else (if is_text text (codes "Static") then Some 1 else None)

unfoldable pub pci_of : List (List ℕ) → Option Node
pci_of arguments = do
  two ← two_of arguments
  device ← number_up_to 0xFF two.0
  function ← number_up_to 0xFF two.1
  Some (Pci function device)

unfoldable pub usb_of : List (List ℕ) → Option Node
usb_of arguments = do
  two ← two_of arguments
  port ← number_up_to 0xFF two.0
  interface ← number_up_to 0xFF two.1
  Some (Usb port interface)

unfoldable pub sata_of : List (List ℕ) → Option Node
sata_of arguments = do
  three ← three_of arguments
  hba ← number_up_to 0xFFFF three.0
  multiplier ← number_up_to 0xFFFF three.1
  lun ← number_up_to 0xFFFF three.2
  Some (Sata hba multiplier lun)

unfoldable pub vlan_of : List (List ℕ) → Option Node
vlan_of arguments = do
  one ← one_of arguments
  id ← number_up_to 0xFFFF one
  Some (Vlan id)

unfoldable pub root_of : ℕ → List (List ℕ) → Option Node
root_of hid arguments = do
  one ← one_of arguments
  uid ← number_up_to 0xFFFFFFFF one
  Some (Acpi hid uid)

unfoldable pub nvme_of : List (List ℕ) → Option Node
nvme_of arguments = do
  two ← two_of arguments
  namespace ← number_up_to 0xFFFFFFFF two.0
  eui ← eui_of (parts_of hyphen two.1)
  Some (Nvme namespace eui)

unfoldable pub acpi_of : List (List ℕ) → Option Node
acpi_of arguments = do
  two ← two_of arguments
  hid ← hid_of two.0
  uid ← number_up_to 0xFFFFFFFF two.1
  Some (Acpi hid uid)

unfoldable pub mac_node_of : List (List ℕ) → Option Node
mac_node_of arguments = do
  two ← two_of arguments
  address ← mac_of two.0
  if_kind ← number_up_to 1 two.1
  Some (Mac address if_kind)

unfoldable pub ipv4_of : List (List ℕ) → Option Node
ipv4_of arguments = do
  first ← first_two_of arguments
  second ← first_two_of first.2
  last ← two_of second.2
  remote ← address_of (parts_of dot first.0)
  protocol ← number_up_to 0xFFFF first.1
  fixed ← origin_of second.0
  local ← address_of (parts_of dot second.1)
  gateway ← address_of (parts_of dot last.0)
  mask ← address_of (parts_of dot last.1)
  Some (Ipv4 (ipv4_parts local remote 0 0 protocol fixed gateway mask))

-- a signature and its kind
unfoldable pub signature_of : List ℕ → List ℕ → Option (List ℕ × ℕ)
signature_of format signature =
    if is_text format (codes "GPT") then (guid_read signature >>= λ guid. Some (guid, 2))
    else (if is_text format (codes "MBR")
    then (number_up_to 0xFFFFFFFF signature >>= λ number. Some (to_le_bytes w32 number ++ replicate 12 0, 1)) else None)

unfoldable pub hard_drive_of : List (List ℕ) → Option Node
hard_drive_of arguments = do
  first ← first_two_of arguments
  last ← three_of first.2
  partition ← number_up_to 0xFFFFFFFF first.0
  signature ← signature_of first.1 last.0
  start ← number_up_to 0xFFFFFFFFFFFFFFFF last.1
  size ← number_up_to 0xFFFFFFFFFFFFFFFF last.2
  Some (HardDrive (hard_drive_parts partition start size signature.0 signature.1 signature.1))

unfoldable pub cdrom_of : List (List ℕ) → Option Node
cdrom_of arguments = do
  three ← three_of arguments
  entry ← number_up_to 0xFFFFFFFF three.0
  start ← number_up_to 0xFFFFFFFFFFFFFFFF three.1
  size ← number_up_to 0xFFFFFFFFFFFFFFFF three.2
  Some (Cdrom entry start size)

abbrev pub uri_of : List ℕ → Option Node
uri_of text = if list_all (is_plain_from 0x21) text && nat_le (length text) body_max then Some (Uri text) else None

abbrev pub file_of : List ℕ → Option Node
file_of text = if list_all (is_plain_from 0x20) text && nat_le (length text) path_name_max then Some (FilePath text) else None

-- a part, and perhaps one after it
abbrev pub second_of : List (List ℕ) → Option (Option (List ℕ))
second_of [] = Some None
second_of (b ∷ others) = one_of (b ∷ others) >>= λ second. Some (Some second)

abbrev pub one_or_two_of : List (List ℕ) → Option (List ℕ × Option (List ℕ))
one_or_two_of [] = None
one_or_two_of (a ∷ others) = second_of others >>= λ second. Some (a, second)

-- the bytes of data that may be there, if they are at most this many
abbrev pub data_of : ℕ → List ℕ → Option (List ℕ)
data_of most text = if is_data text && nat_le (length (data_bytes text)) most then Some (data_bytes text) else None

abbrev pub data_up_to : ℕ → Option (List ℕ) → Option (List ℕ)
data_up_to most None = Some []
data_up_to most (Some text) = data_of most text

unfoldable pub vendor_of : List (List ℕ) → Option VendorParts
vendor_of arguments = do
  parts ← one_or_two_of arguments
  guid ← guid_read parts.0
  body ← data_up_to vendor_body_max parts.1
  Some (vendor_parts guid body)

unfoldable pub generic_of : List (List ℕ) → Option Row
generic_of arguments = do
  first ← first_of arguments
  parts ← one_or_two_of first.1
  kind ← number_up_to 0xFF first.0
  sub ← number_up_to 0xFF parts.0
  body ← data_up_to body_max parts.1
  Some (row kind sub body)

-- the node has the row, if there is one
abbrev pub IsOfRow : Node → Option Row → Type 0
IsOfRow node None = ⊥
IsOfRow node (Some r) = IsNode node × (row_of node ≡ r)

unfoldable pub vendor_hw_of : List (List ℕ) → Option Node
vendor_hw_of arguments = vendor_of arguments >>= λ vendor. Some (VendorHw vendor)

unfoldable pub vendor_msg_of : List (List ℕ) → Option Node
vendor_msg_of arguments = vendor_of arguments >>= λ vendor. Some (VendorMsg vendor)

unfoldable pub vendor_media_of : List (List ℕ) → Option Node
vendor_media_of arguments = vendor_of arguments >>= λ vendor. Some (VendorMedia vendor)
