-- What a named segment of each form means: its arguments are read as the fields of one node, in their ranges.
use Rattle.std.proofs.Common.{◌≡◌, ◌<◌, ◌≤◌, ◌^◌, ℕ, List, [], ◌∷◌, length, refl, sym, ap, subst, codes, ◌≢◌, ◌⊎◌, suc, ◌∙◌, inl, inr, arith}
use Rattle.std.specs.List.{AllByRecursion}
use Rattle.uefi_path.specs.declared.node.Node.{Node}
use Rattle.uefi_path.specs.declared.node.Node.TheVariants.{
  Pci,
  VendorHw,
  Acpi,
  Usb,
  VendorMsg,
  Mac,
  Ipv4,
  Sata,
  Vlan,
  Nvme,
  Uri,
  HardDrive,
  Cdrom,
  VendorMedia,
  FilePath,
  Other,
}
use Rattle.uefi_path.specs.Parts.{VendorParts, IsVendor, ipv4_parts, IsUri, IsPathName, hard_drive_parts}
use Rattle.uefi_path.specs.Row.{AreBytes, Row, row, row_bytes, IsByte, IsRow}
use Rattle.uefi_path.specs.Node.{IsNode, row_of, SpellsNode}
use Rattle.uefi_text.specs.Number.{IsNumber}
use Rattle.uefi_text.specs.Bytes.{IsAddress, IsEui}
use Rattle.uefi_text.specs.Segment.{named}
use Rattle.uefi_path.specs.Standard.{pci_root_hid, pcie_root_hid}
use Rattle.uefi_text.specs.Node.{IsMacAddress, IsOrigin, IsUriByte, IsNameUnit, IsVendorText, IsOptionalData}
use Rattle.uefi_text.specs.Path.{IsNodeText}
use Rattle.uefi_text.proofs.Means.One.{same_argument, behind_two}
use Rattle.uefi_text.proofs.Means.Reads.{
  pci_form,
  usb_form,
  sata_form,
  nvme_form,
  pci_root_form,
  pcie_root_form,
  acpi_form,
  mac_form,
  ipv4_form,
  vlan_form,
  uri_form,
  file_form,
  hard_drive_form,
  cdrom_form,
  vendor_hw_form,
  vendor_msg_form,
  vendor_media_form,
  ReadsPci,
  ReadsUsb,
  ReadsSata,
  ReadsNvme,
  ReadsRoot,
  IsHid,
  ReadsAcpi,
  ReadsMac,
  ReadsIpv4,
  ReadsVlan,
  ReadsUri,
  ReadsFile,
  IsSignature,
  ReadsHardDrive,
  ReadsCdrom,
  ReadsVendor,
  generic_form,
  ReadsGeneric,
}
use Rattle.uefi_text.proofs.Means.Inside.{reads_named}

-- the text is read as the number, which is below the limit
pub record ReadsBelow (limit : ℕ) (text : List ℕ) (n : ℕ) : Type 0 where
  pub is : IsNumber text n
  pub fits : n < limit

below : (limit : ℕ) (s t : List ℕ) (n : ℕ) → s ≡ t → IsNumber t n → n < limit → ReadsBelow limit s n
below limit s t n same is fits = record { is = subst (λ x. IsNumber x n) (sym same) is; fits = fits }

along : (R : List ℕ → List ℕ → Type 0) (s t x : List ℕ) → s ≡ t → R t x → R s x
along R s t x same h = subst (λ y. R y x) (sym same) h

along_number : (R : List ℕ → ℕ → Type 0) (s t : List ℕ) (n : ℕ) → s ≡ t → R t n → R s n
along_number R s t n same h = subst (λ y. R y n) (sym same) h

-- Pci
pub pci_count : (arguments : List (List ℕ)) (node : Node) → IsNodeText (named (codes "Pci") arguments) node → length arguments ≡ 2
pci_count arguments node means = let p : ReadsPci arguments node = reads_named (codes "Pci") arguments node pci_form refl means in ap length p.are

pub pci_arguments : (device function : List ℕ) (node : Node) →
    IsNodeText (named (codes "Pci") (device ∷ function ∷ [])) node → (d : ℕ) × (f : ℕ) × ReadsBelow (2 ^ 8) device d
    × ReadsBelow (2 ^ 8) function f × (node ≡ Pci f d)
pci_arguments device function node means =
    let p : ReadsPci (device ∷ function ∷ []) node = reads_named (codes "Pci") (device ∷ function ∷ []) node pci_form refl means in
    let fits : IsNode (Pci p.f p.d) = subst IsNode p.is means.valid in (
      p.d,
      p.f,
      below (2 ^ 8) device p.device p.d (same_argument 0 _ _ p.are) p.device_is fits.1,
      below (2 ^ 8) function p.function p.f (same_argument 1 _ _ p.are) p.function_is fits.0,
      p.is,
    )

-- USB
pub usb_count : (arguments : List (List ℕ)) (node : Node) → IsNodeText (named (codes "USB") arguments) node → length arguments ≡ 2
usb_count arguments node means = let p : ReadsUsb arguments node = reads_named (codes "USB") arguments node usb_form refl means in ap length p.are

pub usb_arguments : (port interface : List ℕ) (node : Node) →
    IsNodeText (named (codes "USB") (port ∷ interface ∷ [])) node → (p : ℕ) × (i : ℕ) × ReadsBelow (2 ^ 8) port p
    × ReadsBelow (2 ^ 8) interface i × (node ≡ Usb p i)
usb_arguments port interface node means =
    let p : ReadsUsb (port ∷ interface ∷ []) node = reads_named (codes "USB") (port ∷ interface ∷ []) node usb_form refl means in
    let fits : IsNode (Usb p.p p.i) = subst IsNode p.is means.valid in (
      p.p,
      p.i,
      below (2 ^ 8) port p.port p.p (same_argument 0 _ _ p.are) p.port_is fits.0,
      below (2 ^ 8) interface p.interface p.i (same_argument 1 _ _ p.are) p.interface_is fits.1,
      p.is,
    )

-- Sata
pub sata_count : (arguments : List (List ℕ)) (node : Node) → IsNodeText (named (codes "Sata") arguments) node → length arguments ≡ 3
sata_count arguments node means = let p : ReadsSata arguments node = reads_named (codes "Sata") arguments node sata_form refl means in ap length p.are

pub sata_arguments : (hba multiplier lun : List ℕ) (node : Node) →
    IsNodeText (named (codes "Sata") (hba ∷ multiplier ∷ lun ∷ [])) node → (h : ℕ) × (m : ℕ) × (l : ℕ)
    × ReadsBelow (2 ^ 16) hba h × ReadsBelow (2 ^ 16) multiplier m × ReadsBelow (2 ^ 16) lun l × (node ≡ Sata h m l)
sata_arguments hba multiplier lun node means =
    let p : ReadsSata (hba ∷ multiplier ∷ lun ∷ []) node = reads_named (codes "Sata") (hba ∷ multiplier ∷ lun ∷ []) node sata_form refl means in
    let fits : IsNode (Sata p.h p.m p.l) = subst IsNode p.is means.valid in (
      p.h,
      p.m,
      p.l,
      below (2 ^ 16) hba p.hba p.h (same_argument 0 _ _ p.are) p.hba_is fits.0,
      below (2 ^ 16) multiplier p.multiplier p.m (same_argument 1 _ _ p.are) p.multiplier_is fits.1,
      below (2 ^ 16) lun p.lun p.l (same_argument 2 _ _ p.are) p.lun_is fits.2,
      p.is,
    )

-- Vlan
pub vlan_count : (arguments : List (List ℕ)) (node : Node) → IsNodeText (named (codes "Vlan") arguments) node → length arguments ≡ 1
vlan_count arguments node means = let p : ReadsVlan arguments node = reads_named (codes "Vlan") arguments node vlan_form refl means in ap length p.are

pub vlan_arguments : (id : List ℕ) (node : Node) → IsNodeText (named (codes "Vlan") (id ∷ [])) node → (i : ℕ) × ReadsBelow (2 ^ 16) id i × (node ≡ Vlan i)
vlan_arguments id node means =
    let p : ReadsVlan (id ∷ []) node = reads_named (codes "Vlan") (id ∷ []) node vlan_form refl means in
    let fits : IsNode (Vlan p.i) = subst IsNode p.is means.valid in
    (p.i, below (2 ^ 16) id p.id p.i (same_argument 0 _ _ p.are) p.id_is fits, p.is)

-- CDROM
pub cdrom_count : (arguments : List (List ℕ)) (node : Node) → IsNodeText (named (codes "CDROM") arguments) node → length arguments ≡ 3
cdrom_count arguments node means = let p : ReadsCdrom arguments node = reads_named (codes "CDROM") arguments node cdrom_form refl means in ap length p.are

pub cdrom_arguments : (entry start size : List ℕ) (node : Node) →
    IsNodeText (named (codes "CDROM") (entry ∷ start ∷ size ∷ [])) node → (e : ℕ) × (st : ℕ) × (si : ℕ)
    × ReadsBelow (2 ^ 32) entry e × ReadsBelow (2 ^ 64) start st × ReadsBelow (2 ^ 64) size si × (node ≡ Cdrom e st si)
cdrom_arguments entry start size node means =
    let p : ReadsCdrom (entry ∷ start ∷ size ∷ []) node = reads_named (codes "CDROM") (entry ∷ start ∷ size ∷ []) node cdrom_form refl means in
    let fits : IsNode (Cdrom p.e p.st p.si) = subst IsNode p.is means.valid in (
      p.e,
      p.st,
      p.si,
      below (2 ^ 32) entry p.entry p.e (same_argument 0 _ _ p.are) p.entry_is fits.0,
      below (2 ^ 64) start p.start p.st (same_argument 1 _ _ p.are) p.start_is fits.1,
      below (2 ^ 64) size p.size p.si (same_argument 2 _ _ p.are) p.size_is fits.2,
      p.is,
    )

-- NVMe
pub nvme_count : (arguments : List (List ℕ)) (node : Node) → IsNodeText (named (codes "NVMe") arguments) node → length arguments ≡ 2
nvme_count arguments node means = let p : ReadsNvme arguments node = reads_named (codes "NVMe") arguments node nvme_form refl means in ap length p.are

pub nvme_arguments : (namespace identifier : List ℕ) (node : Node) →
    IsNodeText (named (codes "NVMe") (namespace ∷ identifier ∷ [])) node → (n : ℕ) × (eui : List ℕ)
    × ReadsBelow (2 ^ 32) namespace n × IsEui identifier eui × AreBytes 8 eui × (node ≡ Nvme n eui)
nvme_arguments namespace identifier node means =
    let p : ReadsNvme (namespace ∷ identifier ∷ []) node = reads_named (codes "NVMe") (namespace ∷ identifier ∷ []) node nvme_form refl means in
    let fits : IsNode (Nvme p.n p.eui) = subst IsNode p.is means.valid in (
      p.n,
      p.eui,
      below (2 ^ 32) namespace p.namespace p.n (same_argument 0 _ _ p.are) p.namespace_is fits.0,
      along IsEui identifier p.identifier p.eui (same_argument 1 _ _ p.are) p.identifier_is,
      fits.1,
      p.is,
    )

-- PciRoot
pub pci_root_count : (arguments : List (List ℕ)) (node : Node) → IsNodeText (named (codes "PciRoot") arguments) node → length arguments ≡ 1
pci_root_count arguments node means = let p : ReadsRoot pci_root_hid arguments node =
    reads_named (codes "PciRoot") arguments node pci_root_form refl means in ap length p.are

pub pci_root_arguments : (uid : List ℕ) (node : Node) → IsNodeText (named (codes "PciRoot") (uid ∷ [])) node →
    (u : ℕ) × ReadsBelow (2 ^ 32) uid u × (node ≡ Acpi pci_root_hid u)
pci_root_arguments uid node means =
    let p : ReadsRoot pci_root_hid (uid ∷ []) node = reads_named (codes "PciRoot") (uid ∷ []) node pci_root_form refl means in
    let fits : IsNode (Acpi pci_root_hid p.u) = subst IsNode p.is means.valid in
    (p.u, below (2 ^ 32) uid p.uid p.u (same_argument 0 _ _ p.are) p.uid_is fits.1, p.is)

-- PcieRoot
pub pcie_root_count : (arguments : List (List ℕ)) (node : Node) → IsNodeText (named (codes "PcieRoot") arguments) node → length arguments ≡ 1
pcie_root_count arguments node means = let p : ReadsRoot pcie_root_hid arguments node =
    reads_named (codes "PcieRoot") arguments node pcie_root_form refl means in ap length p.are

pub pcie_root_arguments : (uid : List ℕ) (node : Node) → IsNodeText (named (codes "PcieRoot") (uid ∷ [])) node →
    (u : ℕ) × ReadsBelow (2 ^ 32) uid u × (node ≡ Acpi pcie_root_hid u)
pcie_root_arguments uid node means =
    let p : ReadsRoot pcie_root_hid (uid ∷ []) node = reads_named (codes "PcieRoot") (uid ∷ []) node pcie_root_form refl means in
    let fits : IsNode (Acpi pcie_root_hid p.u) = subst IsNode p.is means.valid in
    (p.u, below (2 ^ 32) uid p.uid p.u (same_argument 0 _ _ p.are) p.uid_is fits.1, p.is)

-- Acpi
pub acpi_count : (arguments : List (List ℕ)) (node : Node) → IsNodeText (named (codes "Acpi") arguments) node → length arguments ≡ 2
acpi_count arguments node means = let p : ReadsAcpi arguments node = reads_named (codes "Acpi") arguments node acpi_form refl means in ap length p.are

pub acpi_arguments : (hid uid : List ℕ) (node : Node) → IsNodeText (named (codes "Acpi") (hid ∷ uid ∷ [])) node →
    (h : ℕ) × (u : ℕ) × IsHid hid h × ReadsBelow (2 ^ 32) uid u × (h < 2 ^ 32) × (node ≡ Acpi h u)
acpi_arguments hid uid node means =
    let p : ReadsAcpi (hid ∷ uid ∷ []) node = reads_named (codes "Acpi") (hid ∷ uid ∷ []) node acpi_form refl means in
    let fits : IsNode (Acpi p.h p.u) = subst IsNode p.is means.valid in (
      p.h,
      p.u,
      along_number IsHid hid p.hid p.h (same_argument 0 _ _ p.are) p.hid_is,
      below (2 ^ 32) uid p.uid p.u
          (same_argument 1 _ _ p.are) p.uid_is fits.1,
      fits.0,
      p.is,
    )

-- MAC
pub mac_count : (arguments : List (List ℕ)) (node : Node) → IsNodeText (named (codes "MAC") arguments) node → length arguments ≡ 2
mac_count arguments node means = let p : ReadsMac arguments node = reads_named (codes "MAC") arguments node mac_form refl means in ap length p.are

pub mac_arguments : (address if_kind : List ℕ) (node : Node) →
    IsNodeText (named (codes "MAC") (address ∷ if_kind ∷ [])) node → (bytes : List ℕ) × (k : ℕ)
    × IsMacAddress address bytes × IsNumber if_kind k × (k ≤ 1) × AreBytes 32 bytes × (node ≡ Mac bytes k)
mac_arguments address if_kind node means =
    let p : ReadsMac (address ∷ if_kind ∷ []) node = reads_named (codes "MAC") (address ∷ if_kind ∷ []) node mac_form refl means in
    let fits : IsNode (Mac p.bytes p.k) = subst IsNode p.is means.valid in (
      p.bytes,
      p.k,
      along IsMacAddress address p.address p.bytes (same_argument 0 _ _ p.are) p.address_is,
      along_number IsNumber if_kind p.if_kind p.k (same_argument 1 _ _ p.are) p.if_kind_is,
      p.plain,
      fits.0,
      p.is,
    )

-- IPv4
pub ipv4_count : (arguments : List (List ℕ)) (node : Node) → IsNodeText (named (codes "IPv4") arguments) node → length arguments ≡ 6
ipv4_count arguments node means = let p : ReadsIpv4 arguments node = reads_named (codes "IPv4") arguments node ipv4_form refl means in ap length p.are

pub ipv4_arguments : (remote protocol origin local gateway mask : List ℕ) (node : Node) →
    IsNodeText (named (codes "IPv4") (remote ∷ protocol ∷ origin ∷ local ∷ gateway ∷ mask ∷ [])) node →
    (r : List ℕ) × (p : ℕ) × (f : ℕ) × (l : List ℕ) × (g : List ℕ) × (m : List ℕ) × IsAddress remote r
    × ReadsBelow (2 ^ 16) protocol p × IsOrigin origin f × IsAddress local l × IsAddress gateway g × IsAddress mask m
    × AreBytes 4 r × AreBytes 4 l × AreBytes 4 g × AreBytes 4 m × (node ≡ Ipv4 (ipv4_parts l r 0 0 p f g m))
ipv4_arguments remote protocol origin local gateway mask node means =
    let p : ReadsIpv4 (remote ∷ protocol ∷ origin ∷ local ∷ gateway ∷ mask ∷ []) node = reads_named (codes "IPv4")
    (remote ∷ protocol ∷ origin ∷ local ∷ gateway ∷ mask ∷ []) node ipv4_form refl means in
    let fits : IsNode (Ipv4 (ipv4_parts p.l p.r 0 0 p.p p.f p.g p.m)) = subst IsNode p.is means.valid in (
      p.r,
      p.p,
      p.f,
      p.l,
      p.g,
      p.m,
      along IsAddress remote p.remote p.r (same_argument 0 _ _ p.are) p.remote_is,
      below (2 ^ 16) protocol p.protocol p.p (same_argument 1 _ _ p.are) p.protocol_is fits.protocol,
      along_number IsOrigin origin p.origin p.f (same_argument 2 _ _ p.are) p.origin_is,
      along IsAddress local p.local p.l (same_argument 3 _ _ p.are) p.local_is,
      along IsAddress gateway p.gateway p.g (same_argument 4 _ _ p.are) p.gateway_is,
      along IsAddress mask p.mask p.m (same_argument 5 _ _ p.are) p.mask_is,
      fits.remote,
      fits.local,
      fits.gateway,
      fits.mask,
      p.is,
    )

-- HD
pub hard_drive_count : (arguments : List (List ℕ)) (node : Node) → IsNodeText (named (codes "HD") arguments) node → length arguments ≡ 5
hard_drive_count arguments node means = let p : ReadsHardDrive arguments node =
    reads_named (codes "HD") arguments node hard_drive_form refl means in ap length p.are

pub hard_drive_arguments : (partition format signature start size : List ℕ) (node : Node) →
    IsNodeText (named (codes "HD") (partition ∷ format ∷ signature ∷ start ∷ size ∷ [])) node
    → (p : ℕ) × (kind : ℕ) × (g : List ℕ) × (st : ℕ) × (si : ℕ) × ReadsBelow (2 ^ 32) partition p
    × IsSignature format signature kind g × ReadsBelow (2 ^ 64) start st × ReadsBelow (2 ^ 64) size si
    × AreBytes 16 g × (node ≡ HardDrive (hard_drive_parts p st si g kind kind))
hard_drive_arguments partition format signature start size node means =
    let p : ReadsHardDrive (partition ∷ format ∷ signature ∷ start ∷ size ∷ []) node = reads_named (codes "HD")
    (partition ∷ format ∷ signature ∷ start ∷ size ∷ []) node hard_drive_form refl means in
    let fits : IsNode (HardDrive (hard_drive_parts p.p p.st p.si p.g p.kind p.kind)) = subst IsNode p.is means.valid in
    let formats : format ≡ p.format = same_argument 1 _ _ p.are in
    let signatures : signature ≡ p.signature = same_argument 2 _ _ p.are in (
      p.p,
      p.kind,
      p.g,
      p.st,
      p.si,
      below (2 ^ 32) partition p.partition p.p (same_argument 0 _ _ p.are) p.partition_is fits.partition,
      subst (λ x. IsSignature format x p.kind p.g) (sym signatures) (subst (λ x. IsSignature x p.signature p.kind p.g) (sym formats) p.signature_is),
      below (2 ^ 64) start p.start p.st (same_argument 3 _ _ p.are) p.start_is fits.start,
      below (2 ^ 64) size p.size p.si (same_argument 4 _ _ p.are) p.size_is fits.size,
      fits.signature,
      p.is,
    )

-- Uri and File
pub uri_argument : (bytes : List ℕ) (node : Node) → IsNodeText (named (codes "Uri") (bytes ∷ [])) node →
    AllByRecursion IsUriByte bytes × IsUri bytes × (node ≡ Uri bytes)
uri_argument bytes node means =
    let p : ReadsUri (bytes ∷ []) node = reads_named (codes "Uri") (bytes ∷ []) node uri_form refl means in
    let same : bytes ≡ p.bytes = same_argument 0 _ _ p.are in
    let is : node ≡ Uri bytes = subst (λ (x : List ℕ). node ≡ Uri x) (sym same) p.is in
    (subst (λ x. AllByRecursion IsUriByte x) (sym same) p.plain, subst IsNode is means.valid, is)

pub file_argument : (units : List ℕ) (node : Node) → IsNodeText (named (codes "File") (units ∷ [])) node →
    AllByRecursion IsNameUnit units × IsPathName units × (node ≡ FilePath units)
file_argument units node means =
    let p : ReadsFile (units ∷ []) node = reads_named (codes "File") (units ∷ []) node file_form refl means in
    let same : units ≡ p.units = same_argument 0 _ _ p.are in
    let is : node ≡ FilePath units = subst (λ (x : List ℕ). node ≡ FilePath x) (sym same) p.is in
    (subst (λ x. AllByRecursion IsNameUnit x) (sym same) p.plain, subst IsNode is means.valid, is)

-- VenHw, VenMsg and VenMedia
pub vendor_hw_arguments : (arguments : List (List ℕ)) (node : Node) →
    IsNodeText (named (codes "VenHw") arguments) node → (vendor : VendorParts) × IsVendorText arguments vendor
    × IsVendor vendor × (node ≡ VendorHw vendor)
vendor_hw_arguments arguments node means =
    let p : ReadsVendor (λ v. VendorHw v) arguments node = reads_named (codes "VenHw") arguments node vendor_hw_form refl means in
    (p.vendor, p.are, subst IsNode p.is means.valid, p.is)

pub vendor_msg_arguments : (arguments : List (List ℕ)) (node : Node) →
    IsNodeText (named (codes "VenMsg") arguments) node → (vendor : VendorParts) × IsVendorText arguments vendor
    × IsVendor vendor × (node ≡ VendorMsg vendor)
vendor_msg_arguments arguments node means =
    let p : ReadsVendor (λ v. VendorMsg v) arguments node = reads_named (codes "VenMsg") arguments node vendor_msg_form refl means in
    (p.vendor, p.are, subst IsNode p.is means.valid, p.is)

pub vendor_media_arguments : (arguments : List (List ℕ)) (node : Node) →
    IsNodeText (named (codes "VenMedia") arguments) node → (vendor : VendorParts) × IsVendorText arguments vendor
    × IsVendor vendor × (node ≡ VendorMedia vendor)
vendor_media_arguments arguments node means =
    let p : ReadsVendor (λ v. VendorMedia v) arguments node = reads_named (codes "VenMedia") arguments node vendor_media_form refl means in
    (p.vendor, p.are, subst IsNode p.is means.valid, p.is)

-- what the crate of paths proves as a law: each node has a spelling, of bytes, whose length two bytes state
abbrev pub EachNodeIsShort : Type 0
EachNodeIsShort = (node : Node) → IsNode node → (bytes : List ℕ) × SpellsNode bytes node × AllByRecursion IsByte bytes × (length bytes < 2 ^ 16)

row_of_bytes : (r : Row) → AllByRecursion IsByte (row_bytes r) → length (row_bytes r) < 2 ^ 16 → IsRow r
row_of_bytes r h short = record { kind = h.0; sub = h.1.0; body = h.1.1.1.1; len = omega (arith, short) }

pub node_is_row : EachNodeIsShort → (node : Node) → IsNode node → IsRow (row_of node)
node_is_row law node valid =
    let spelled = law node valid in
    row_of_bytes (row_of node) (subst (AllByRecursion IsByte) spelled.1.1 spelled.2) (subst (λ (x : List ℕ). length x < 2 ^ 16) spelled.1.1 spelled.3)

-- no node has the type of the end nodes
pub node_is_no_end : (node : Node) → IsNode node → (row_of node).kind ≢ 0x7F
node_is_no_end (Pci _ _) valid e = omega (arith, e)
node_is_no_end (VendorHw _) valid e = omega (arith, e)
node_is_no_end (Acpi _ _) valid e = omega (arith, e)
node_is_no_end (Usb _ _) valid e = omega (arith, e)
node_is_no_end (VendorMsg _) valid e = omega (arith, e)
node_is_no_end (Mac _ _) valid e = omega (arith, e)
node_is_no_end (Ipv4 _) valid e = omega (arith, e)
node_is_no_end (Sata _ _ _) valid e = omega (arith, e)
node_is_no_end (Vlan _) valid e = omega (arith, e)
node_is_no_end (Nvme _ _) valid e = omega (arith, e)
node_is_no_end (Uri _) valid e = omega (arith, e)
node_is_no_end (HardDrive _) valid e = omega (arith, e)
node_is_no_end (Cdrom _ _ _) valid e = omega (arith, e)
node_is_no_end (VendorMedia _) valid e = omega (arith, e)
node_is_no_end (FilePath _) valid e = omega (arith, e)
node_is_no_end (Other other) valid e = valid.no_end e

data_count : (more : List (List ℕ)) (bytes : List ℕ) → IsOptionalData more bytes → (length more ≡ 0) ⊎ (length more ≡ 1)
data_count [] bytes h = inl refl
data_count (_ ∷ []) bytes h = inr refl
data_count (_ ∷ _ ∷ _) bytes h = absurd h

-- Path
pub generic_count : (arguments : List (List ℕ)) (node : Node) → IsNodeText (named (codes "Path") arguments) node →
    (length arguments ≡ 2) ⊎ (length arguments ≡ 3)
generic_count arguments node means =
    let p : ReadsGeneric arguments node = reads_named (codes "Path") arguments node generic_form refl means in
    elim (data_count p.more p.body p.body_is) [
      | inl none ↦ inl (ap length p.are ∙ ap (λ n. suc (suc n)) none)
      | inr one ↦ inr (ap length p.are ∙ ap (λ n. suc (suc n)) one)
    ]

pub generic_arguments : EachNodeIsShort → (kind sub : List ℕ) (more : List (List ℕ)) (node : Node) → IsNodeText (named (codes "Path") (kind ∷ sub ∷ more)) node
    → (k : ℕ) × (s : ℕ) × (body : List ℕ) × IsNumber kind k × IsNumber sub s × IsOptionalData more body
    × IsRow (row k s body) × (k ≢ 0x7F) × (row_of node ≡ row k s body)
generic_arguments law kind sub more node means =
    let p : ReadsGeneric (kind ∷ sub ∷ more) node = reads_named (codes "Path") (kind ∷ sub ∷ more) node generic_form refl means in
    let mores : more ≡ p.more = ap behind_two p.are in
    let is-row : IsRow (row p.k p.s p.body) = subst IsRow p.is (node_is_row law node means.valid) in
    let no-end : p.k ≢ 0x7F = λ e. node_is_no_end node means.valid (ap (λ (r : Row). r.kind) p.is ∙ e) in (
      p.k,
      p.s,
      p.body,
      along_number IsNumber kind p.kind p.k (same_argument 0 _ _ p.are) p.kind_is,
      along_number IsNumber sub p.sub p.s (same_argument 1 _ _ p.are) p.sub_is,
      subst (λ (x : List (List ℕ)). IsOptionalData x p.body) (sym mores) p.body_is,
      is-row,
      no-end,
      p.is,
    )
