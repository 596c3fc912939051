-- What a segment means: one case for each form of a node's text. The names are those of UEFI 2.10, 10.6.1.
use Rattle.std.specs.Prelude.{◌≡◌, ◌<◌, ◌≤◌, ◌⊎◌, ◌≢◌, ◌^◌, ◌+◌, ◌*◌, ℕ, List, [], ◌∷◌, ◌++◌, length, replicate, codes}
use Rattle.std.specs.List.{AllByRecursion}
use Rattle.std.specs.Int.{w32, to_le_bytes}
use Rattle.std.specs.Str.Parse.{AllDigits, digits_value}
use Rattle.uefi_path.specs.declared.node.Node.{Node}
use Rattle.uefi_path.specs.Standard.{pci_root_hid, pcie_root_hid}
use Rattle.uefi_path.specs.declared.node.Node.TheVariants.{Pci, VendorHw, Acpi, Usb, VendorMsg, Mac, Ipv4, Sata, Vlan, Nvme}
use Rattle.uefi_path.specs.declared.node.Node.TheVariants.{Uri, HardDrive, Cdrom, VendorMedia, FilePath}
use Rattle.uefi_path.specs.Parts.{VendorParts, ipv4_parts, hard_drive_parts}
use Rattle.uefi_path.specs.Row.{row}
use Rattle.uefi_path.specs.Node.{row_of}
use Rattle.uefi_text.specs.Number.{IsNumber}
use Rattle.uefi_text.specs.Bytes.{IsHexData, IsAddress, IsEui}
use Rattle.uefi_text.specs.Guid.{IsGuid}
use Rattle.uefi_text.specs.Segment.{Segment, named, bare}

-- the low half of each identifier that begins with PNP, and the identifier with this high half
abbrev pub pnp : ℕ
pnp = 0x41D0

abbrev pub pnp_hid : ℕ → ℕ
pnp_hid high = high * 0x10000 + pnp

-- `PNP` and four digits of either case, read as an identifier
pub record IsPnp (text : List ℕ) (hid : ℕ) : Type 0 where
  pub four : List ℕ
  pub is : text ≡ codes "PNP" ++ four
  pub all : AllDigits 16 four
  pub len : length four ≡ 4
  pub value : hid ≡ pnp_hid (digits_value 16 four)

-- twelve digits: the first six bytes of an address whose others are zero
pub record IsMacAddress (text address : List ℕ) : Type 0 where
  pub six : List ℕ
  pub read : IsHexData text six
  pub len : length six ≡ 6
  pub value : address ≡ six ++ replicate 26 0

-- a number of 32 bits: the first four bytes of a signature whose others are zero
pub record IsMbrSignature (text signature : List ℕ) : Type 0 where
  pub number : ℕ
  pub read : IsNumber text number
  pub range : number < 2 ^ 32
  pub value : signature ≡ to_le_bytes w32 number ++ replicate 12 0

-- how an address was got, by the static flag
abbrev pub IsOrigin : List ℕ → ℕ → Type 0
IsOrigin text fixed = ((text ≡ codes "DHCP") × (fixed ≡ 0)) ⊎ ((text ≡ codes "Static") × (fixed ≡ 1))

-- a byte of a URI that is printed as it is: 0x21 to 0x7E without parentheses
pub record IsUriByte (byte : ℕ) : Type 0 where
  pub low : 0x21 ≤ byte
  pub high : byte ≤ 0x7E
  pub no_open : byte ≢ 0x28
  pub no_close : byte ≢ 0x29

-- a unit of a path name that is printed as it is: 0x20 to 0x7E without parentheses
pub record IsNameUnit (unit : ℕ) : Type 0 where
  pub low : 0x20 ≤ unit
  pub high : unit ≤ 0x7E
  pub no_open : unit ≢ 0x28
  pub no_close : unit ≢ 0x29

-- a unit of a bare path name: neither a slash nor a comma
pub record IsBareUnit (unit : ℕ) : Type 0 where
  pub plain : IsNameUnit unit
  pub no_slash : unit ≢ 0x2F
  pub no_comma : unit ≢ 0x2C

-- a bare path name: a backslash, and what follows it
abbrev pub IsBareName : List ℕ → Type 0
IsBareName [] = ⊥
IsBareName (first ∷ others) = (first ≡ 0x5C) × AllByRecursion IsBareUnit others

-- the arguments after the others are data: none, or one argument of hexadecimal digits
abbrev pub IsOptionalData : List (List ℕ) → List ℕ → Type 0
IsOptionalData [] bytes = bytes ≡ []
IsOptionalData (hex ∷ []) bytes = IsHexData hex bytes
IsOptionalData (_ ∷ _ ∷ _) bytes = ⊥

-- the arguments of a vendor's node: an identifier, and perhaps data
abbrev pub IsVendorText : List (List ℕ) → VendorParts → Type 0
IsVendorText [] vendor = ⊥
IsVendorText (guid ∷ more) vendor = IsGuid guid vendor.guid × IsOptionalData more vendor.body

-- The segment stands for the node, if that is one with its numbers in their ranges. A node of any type has the form
-- `Path`, of its type, its sub-type and its data.
pub data MeansNode : Segment → Node → Type 0 where
  pci : {device function : List ℕ} {d f : ℕ} → IsNumber device d → IsNumber function f
      → MeansNode (named (codes "Pci") (device ∷ function ∷ [])) (Pci f d)
  usb : {port interface : List ℕ} {p i : ℕ} → IsNumber port p → IsNumber interface i
      → MeansNode (named (codes "USB") (port ∷ interface ∷ [])) (Usb p i)
  sata : {hba multiplier lun : List ℕ} {h m l : ℕ} → IsNumber hba h → IsNumber multiplier m → IsNumber lun l
      → MeansNode (named (codes "Sata") (hba ∷ multiplier ∷ lun ∷ [])) (Sata h m l)
  nvme : {namespace identifier : List ℕ} {n : ℕ} {eui : List ℕ} → IsNumber namespace n → IsEui identifier eui
      → MeansNode (named (codes "NVMe") (namespace ∷ identifier ∷ [])) (Nvme n eui)
  pci_root : {uid : List ℕ} {u : ℕ} → IsNumber uid u
      → MeansNode (named (codes "PciRoot") (uid ∷ [])) (Acpi pci_root_hid u)
  pcie_root : {uid : List ℕ} {u : ℕ} → IsNumber uid u
      → MeansNode (named (codes "PcieRoot") (uid ∷ [])) (Acpi pcie_root_hid u)
  acpi_pnp : {hid uid : List ℕ} {h u : ℕ} → IsPnp hid h → IsNumber uid u
      → MeansNode (named (codes "Acpi") (hid ∷ uid ∷ [])) (Acpi h u)
  acpi : {hid uid : List ℕ} {h u : ℕ} → IsNumber hid h → IsNumber uid u
      → MeansNode (named (codes "Acpi") (hid ∷ uid ∷ [])) (Acpi h u)
  mac : {address if_kind bytes : List ℕ} {k : ℕ} → IsMacAddress address bytes → IsNumber if_kind k → k ≤ 1
      → MeansNode (named (codes "MAC") (address ∷ if_kind ∷ [])) (Mac bytes k)
  ipv4 : {remote protocol origin local gateway mask r l g m : List ℕ} {p f : ℕ}
      → IsAddress remote r → IsNumber protocol p → IsOrigin origin f
      → IsAddress local l → IsAddress gateway g → IsAddress mask m
      → MeansNode (named (codes "IPv4") (remote ∷ protocol ∷ origin ∷ local ∷ gateway ∷ mask ∷ []))
      (Ipv4 (ipv4_parts l r 0 0 p f g m))
  vlan : {id : List ℕ} {i : ℕ} → IsNumber id i
      → MeansNode (named (codes "Vlan") (id ∷ [])) (Vlan i)
  uri : {bytes : List ℕ} → AllByRecursion IsUriByte bytes
      → MeansNode (named (codes "Uri") (bytes ∷ [])) (Uri bytes)
  file : {units : List ℕ} → AllByRecursion IsNameUnit units
      → MeansNode (named (codes "File") (units ∷ [])) (FilePath units)
  bare_file : {units : List ℕ} → IsBareName units
      → MeansNode (bare units) (FilePath units)
  hd_gpt : {partition guid start size g : List ℕ} {p st si : ℕ}
      → IsNumber partition p → IsGuid guid g → IsNumber start st → IsNumber size si
      → MeansNode (named (codes "HD") (partition ∷ codes "GPT" ∷ guid ∷ start ∷ size ∷ []))
      (HardDrive (hard_drive_parts p st si g 2 2))
  hd_mbr : {partition signature start size g : List ℕ} {p st si : ℕ}
      → IsNumber partition p → IsMbrSignature signature g → IsNumber start st → IsNumber size si
      → MeansNode (named (codes "HD") (partition ∷ codes "MBR" ∷ signature ∷ start ∷ size ∷ []))
      (HardDrive (hard_drive_parts p st si g 1 1))
  cdrom : {entry start size : List ℕ} {e st si : ℕ} → IsNumber entry e → IsNumber start st → IsNumber size si
      → MeansNode (named (codes "CDROM") (entry ∷ start ∷ size ∷ [])) (Cdrom e st si)
  vendor_hw : {arguments : List (List ℕ)} {vendor : VendorParts} → IsVendorText arguments vendor
      → MeansNode (named (codes "VenHw") arguments) (VendorHw vendor)
  vendor_msg : {arguments : List (List ℕ)} {vendor : VendorParts} → IsVendorText arguments vendor
      → MeansNode (named (codes "VenMsg") arguments) (VendorMsg vendor)
  vendor_media : {arguments : List (List ℕ)} {vendor : VendorParts} → IsVendorText arguments vendor
      → MeansNode (named (codes "VenMedia") arguments) (VendorMedia vendor)
  generic : {kind sub : List ℕ} {more : List (List ℕ)} {k s : ℕ} {body : List ℕ} {node : Node}
      → IsNumber kind k → IsNumber sub s → IsOptionalData more body → row_of node ≡ row k s body
      → MeansNode (named (codes "Path") (kind ∷ sub ∷ more)) node
