-- The printed segment of a node stands for it.
use Rattle.std.proofs.Common.{
  ◌≡◌,
  ◌≢◌,
  ◌<◌,
  ◌≤◌,
  ◌^◌,
  ◌==◌,
  ◌&&◌,
  ℕ,
  zero,
  suc,
  Bool,
  true,
  false,
  nat_le,
  List,
  [],
  ◌∷◌,
  ◌++◌,
  length,
  take,
  drop,
  refl,
  sym,
  ap,
  subst,
  ◌∙◌,
  inl,
  inr,
  codes,
  arith,
}
use Rattle.std.specs.Prelude.{replicate, if◌then◌else◌}
use Rattle.std.proofs.lemmas.Bool.{and_parts, eqb-true}
use Rattle.std.proofs.lemmas.Bool.Decides.{nat_tests}
use Rattle.std.proofs.lemmas.List.{take-append-drop, length-drop, length-take}
use Rattle.std.proofs.lemmas.Nat.{le_bytes_4}
use Rattle.std.specs.Int.{w32, to_le_bytes, from_le_bytes}
use Rattle.std.specs.List.{AllByRecursion, list_all}
use Rattle.uefi_path.specs.declared.node.Node.{Node}
use Rattle.uefi_path.specs.declared.node.Node.TheVariants.{
  Pci,
  VendorHw,
  Acpi,
  Usb,
  VendorMsg,
  Mac,
  Ipv4,
  Sata,
  Vlan,
  Nvme,
  Uri,
  HardDrive,
  Cdrom,
  VendorMedia,
  FilePath,
  Other,
}
use Rattle.uefi_path.specs.Parts.{VendorParts, IsVendor, Ipv4Parts, ipv4_parts, AreIpv4Parts, HardDriveParts, hard_drive_parts, AreHardDriveParts}
use Rattle.uefi_path.specs.Row.{Row, row_bytes, IsByte, AreBytes}
use Rattle.uefi_path.specs.Node.{row_of, IsNode, SpellsNode}
use Rattle.uefi_path.specs.Standard.{pci_root_hid, pcie_root_hid}
use Rattle.uefi_text.specs.Number.{number_text}
use Rattle.uefi_text.specs.Segment.{Segment, named}
use Rattle.uefi_text.specs.Node as means
use Rattle.uefi_text.specs.Path.{IsNodeText}
use Rattle.uefi_text.specs.Printed.{
  data_arguments,
  generic_segment,
  acpi_segment,
  hid_text,
  are_zero,
  is_plain_mac,
  mac_segment,
  is_plain_ipv4,
  ipv4_segment,
  is_plain_from,
  is_gpt,
  is_mbr,
  mbr_text,
  partition_segment,
  segment_of,
}
use Rattle.uefi_text.specs.Guid.{guid_text}
use Rattle.uefi_text.proofs.Bytes.Octets.{bytes_from_recursion}
use Rattle.uefi_text.proofs.Means.Reads.{IsHid}
use Rattle.uefi_text.proofs.Means.Printed.{
  number_printed,
  decimal_printed,
  hex_printed,
  eight_digits_printed,
  hid_printed,
  address_printed,
  eui_printed,
  guid_printed_is,
  all_take,
}

-- what the crate of paths proves as a law: each node has a spelling, of bytes
abbrev pub EachNodeIsSpelled : Type 0
EachNodeIsSpelled = (node : Node) → IsNode node → (bytes : List ℕ) × SpellsNode bytes node × AllByRecursion IsByte bytes × (length bytes < 2 ^ 16)

-- what holds of one of two segments by a test
chosen : (P : Segment → Type 0) (b : Bool) (x y : Segment) → (b ≡ true → P x) → (b ≡ false → P y) → P (if b then x else y)
chosen P true x y if-true if-false = if-true refl
chosen P false x y if-true if-false = if-false refl

pub optional_data_printed : (bytes : List ℕ) → AllByRecursion IsByte bytes → means.IsOptionalData (data_arguments bytes) bytes
optional_data_printed [] h = refl
optional_data_printed (byte ∷ bytes) h = hex_printed (byte ∷ bytes) h

vendor_text_printed : (vendor : VendorParts) → IsVendor vendor → means.IsVendorText (guid_text vendor.guid ∷ data_arguments vendor.body) vendor
vendor_text_printed vendor h = (guid_printed_is vendor.guid h.guid, optional_data_printed vendor.body h.body)

record HasByteRow (r : Row) : Type 0 where
  kind : IsByte r.kind
  sub : IsByte r.sub
  body : AllByRecursion IsByte r.body

byte_row : (r : Row) → AllByRecursion IsByte (row_bytes r) → HasByteRow r
byte_row r h = record { kind = h.0; sub = h.1.0; body = h.1.1.1.1 }

pub generic_printed : EachNodeIsSpelled → (node : Node) → IsNode node → means.MeansNode (generic_segment (row_of node)) node
generic_printed law node valid =
    let spelled = law node valid in
    let fits = byte_row (row_of node) (subst (AllByRecursion IsByte) spelled.1.1 spelled.2) in
    means.generic (number_printed (row_of node).kind (omega (arith, fits.kind)))
    (number_printed (row_of node).sub (omega (arith, fits.sub))) (optional_data_printed (row_of node).body fits.body) refl

acpi_of_hid : (text : List ℕ) (hid uid : ℕ) → IsHid text hid → uid < 2 ^ 64 →
    means.MeansNode (named (codes "Acpi") (text ∷ number_text uid ∷ [])) (Acpi hid uid)
acpi_of_hid text hid uid (inl is) u = means.acpi_pnp is (number_printed uid u)
acpi_of_hid text hid uid (inr is) u = means.acpi is (number_printed uid u)

acpi_printed : (hid uid : ℕ) → hid < 2 ^ 32 → uid < 2 ^ 32 → means.MeansNode (acpi_segment hid uid) (Acpi hid uid)
acpi_printed hid uid h u =
    let number = number_printed uid (omega arith) in
    let pci = named (codes "PciRoot") (number_text uid ∷ []) in
    let pcie = named (codes "PcieRoot") (number_text uid ∷ []) in
    let other = named (codes "Acpi") (hid_text hid ∷ number_text uid ∷ []) in
    chosen (λ s. means.MeansNode s (Acpi hid uid)) (hid == pci_root_hid) pci (if hid == pcie_root_hid then pcie else other)
    (λ e. subst (λ x. means.MeansNode pci (Acpi x uid)) (sym (eqb-true hid pci_root_hid e)) (means.pci_root number))
    (λ _. chosen (λ s. means.MeansNode s (Acpi hid uid)) (hid == pcie_root_hid) pcie other
    (λ e. subst (λ x. means.MeansNode pcie (Acpi x uid)) (sym (eqb-true hid pcie_root_hid e)) (means.pcie_root number))
    (λ _. acpi_of_hid (hid_text hid) hid uid (hid_printed hid h) (omega arith)))

zeros : (n : ℕ) (xs : List ℕ) → are_zero xs ≡ true → length xs ≡ n → xs ≡ replicate n 0
zeros zero [] e len = refl
zeros zero (x ∷ xs) e len = absurd (omega (arith, len))
zeros (suc n) [] e len = absurd (omega (arith, len))
zeros (suc n) (x ∷ xs) e len =
    let both = and_parts (x == 0) (are_zero xs) e in
    let head : x ≡ 0 = eqb-true x 0 both.0 in
    let tail : xs ≡ replicate n 0 = zeros n xs both.1 (omega (arith, len)) in
    cc

at_most : (n m : ℕ) → nat_le n m ≡ true → n ≤ m
at_most n m h = grind (arith, nat_tests)

mac_printed : (address : List ℕ) (if_kind : ℕ) → AreBytes 32 address → is_plain_mac address if_kind ≡ true →
    means.MeansNode (mac_segment address if_kind) (Mac address if_kind)
mac_printed address if_kind are plain =
    let both = and_parts (nat_le if_kind 1) (are_zero (drop 6 address)) plain in
    let low = at_most if_kind 1 both.0 in
    let rest : drop 6 address ≡ replicate 26 0 = zeros 26 (drop 6 address) both.1 (omega (arith, length-drop 6 address, are.0)) in
    let whole : address ≡ take 6 address ++ replicate 26 0 = sym (take-append-drop 6 address) ∙ ap (λ (x : List ℕ). take 6 address ++ x) rest in
    let six : length (take 6 address) ≡ 6 = omega (arith, length-take 6 address, are.0) in
    means.mac (record {
      six = take 6 address;
      read = hex_printed (take 6 address) (all_take IsByte 6 address are.1);
      len = six;
      value = whole;
    }) (number_printed if_kind (omega arith)) low

origin_printed : (fixed : ℕ) → fixed ≤ 1 → means.IsOrigin (if fixed == 0 then codes "DHCP" else codes "Static") fixed
origin_printed zero h = inl (refl, refl)
origin_printed (suc zero) h = inr (refl, refl)
origin_printed (suc (suc n)) h = absurd (omega arith)

ipv4_printed : (p : Ipv4Parts) → AreIpv4Parts p → is_plain_ipv4 p ≡ true → means.MeansNode (ipv4_segment p) (Ipv4 p)
ipv4_printed p are plain =
    let outer = and_parts (p.local_port == 0) (p.remote_port == 0 && nat_le p.fixed 1) plain in
    let inner = and_parts (p.remote_port == 0) (nat_le p.fixed 1) outer.1 in
    let local : p.local_port ≡ 0 = eqb-true p.local_port 0 outer.0 in
    let remote : p.remote_port ≡ 0 = eqb-true p.remote_port 0 inner.0 in
    let same : ipv4_parts p.local p.remote 0 0 p.protocol p.fixed p.gateway p.mask ≡ p =
    ap (λ x. ipv4_parts p.local p.remote x 0 p.protocol p.fixed p.gateway p.mask) (sym local)
    ∙ ap (λ x. ipv4_parts p.local p.remote p.local_port x p.protocol p.fixed p.gateway p.mask) (sym remote) in
    subst (λ x. means.MeansNode (ipv4_segment p) (Ipv4 x)) same
    (means.ipv4 (address_printed p.remote are.remote.1) (number_printed p.protocol (omega (arith, are.protocol)))
    (origin_printed p.fixed (at_most p.fixed 1 inner.1))
    (address_printed p.local are.local.1) (address_printed p.gateway are.gateway.1) (address_printed p.mask are.mask.1))

record IsPlainCode (low c : ℕ) : Type 0 where
  at_least : low ≤ c
  at_most : c ≤ 0x7E
  no_open : c ≢ 0x28
  no_close : c ≢ 0x29

plain_code : (low c : ℕ) → is_plain_from low c ≡ true → IsPlainCode low c
plain_code low c h = record {
  at_least = grind (arith, nat_tests);
  at_most = grind (arith, nat_tests);
  no_open =
      grind (arith, nat_tests);
  no_close = grind (arith, nat_tests);
}

uri_bytes_printed : (bytes : List ℕ) → list_all (is_plain_from 0x21) bytes ≡ true → AllByRecursion means.IsUriByte bytes
uri_bytes_printed [] h = tt
uri_bytes_printed (c ∷ bytes) h =
    let both = and_parts (is_plain_from 0x21 c) (list_all (is_plain_from 0x21) bytes) h in
    let is = plain_code 0x21 c both.0 in
    (record { low = is.at_least; high = is.at_most; no_open = is.no_open; no_close = is.no_close }, uri_bytes_printed bytes both.1)

name_units_printed : (units : List ℕ) → list_all (is_plain_from 0x20) units ≡ true → AllByRecursion means.IsNameUnit units
name_units_printed [] h = tt
name_units_printed (c ∷ units) h =
    let both = and_parts (is_plain_from 0x20 c) (list_all (is_plain_from 0x20) units) h in
    let is = plain_code 0x20 c both.0 in
    (record { low = is.at_least; high = is.at_most; no_open = is.no_open; no_close = is.no_close }, name_units_printed units both.1)

number_of_four : (bytes : List ℕ) → AreBytes 4 bytes → (from_le_bytes w32 bytes < 2 ^ 32) × (to_le_bytes w32 (from_le_bytes w32 bytes) ≡ bytes)
number_of_four bytes are =
    let fits = bytes_from_recursion bytes are.1 in
    (omega (arith, fits 0, fits 1, fits 2, fits 3), le_bytes_4 bytes _ are.0 fits refl)

mbr_signature_printed : (signature : List ℕ) → AreBytes 16 signature → are_zero (drop 4 signature) ≡ true → means.IsMbrSignature (mbr_text signature) signature
mbr_signature_printed signature are zero_rest =
    let four = number_of_four (take 4 signature) (omega (arith, length-take 4 signature, are.0), all_take IsByte 4 signature are.1) in
    let rest : drop 4 signature ≡ replicate 12 0 = zeros 12 (drop 4 signature) zero_rest (omega (arith, length-drop 4 signature, are.0)) in
    let whole : signature ≡ to_le_bytes w32 (from_le_bytes w32 (take 4 signature)) ++ replicate 12 0 =
    sym (take-append-drop 4 signature) ∙ ap (λ (x : List ℕ). take 4 signature ++ x) rest
    ∙ ap (λ (x : List ℕ). x ++ replicate 12 0) (sym four.1) in
    record {
      number = from_le_bytes w32 (take 4 signature);
      read = eight_digits_printed
          (from_le_bytes w32 (take 4 signature)) four.0;
      range = four.0;
      value = whole;
    }

gpt_printed : (p : HardDriveParts) → AreHardDriveParts p → is_gpt p ≡ true →
    means.MeansNode (partition_segment p (codes "GPT") (guid_text p.signature)) (HardDrive p)
gpt_printed p are is =
    let both = and_parts (p.format == 2) (p.signature_kind == 2) is in
    let format : p.format ≡ 2 = eqb-true p.format 2 both.0 in
    let kind : p.signature_kind ≡ 2 = eqb-true p.signature_kind 2 both.1 in
    let same : hard_drive_parts p.partition p.start p.size p.signature 2 2 ≡ p =
    ap (λ x. hard_drive_parts p.partition p.start p.size p.signature x 2) (sym format)
    ∙ ap (λ x. hard_drive_parts p.partition p.start p.size p.signature p.format x) (sym kind) in
    subst (λ x. means.MeansNode (partition_segment p (codes "GPT") (guid_text p.signature)) (HardDrive x)) same
    (means.hd_gpt (decimal_printed p.partition (omega (arith, are.partition)))
    (guid_printed_is p.signature are.signature) (number_printed p.start are.start) (number_printed p.size are.size))

mbr_printed : (p : HardDriveParts) → AreHardDriveParts p → is_mbr p ≡ true →
    means.MeansNode (partition_segment p (codes "MBR") (mbr_text p.signature)) (HardDrive p)
mbr_printed p are is =
    let outer = and_parts (p.format == 1) (p.signature_kind == 1 && are_zero (drop 4 p.signature)) is in
    let inner = and_parts (p.signature_kind == 1) (are_zero (drop 4 p.signature)) outer.1 in
    let format : p.format ≡ 1 = eqb-true p.format 1 outer.0 in
    let kind : p.signature_kind ≡ 1 = eqb-true p.signature_kind 1 inner.0 in
    let same : hard_drive_parts p.partition p.start p.size p.signature 1 1 ≡ p =
    ap (λ x. hard_drive_parts p.partition p.start p.size p.signature x 1) (sym format)
    ∙ ap (λ x. hard_drive_parts p.partition p.start p.size p.signature p.format x) (sym kind) in
    subst (λ x. means.MeansNode (partition_segment p (codes "MBR") (mbr_text p.signature)) (HardDrive x)) same
    (means.hd_mbr (decimal_printed p.partition (omega (arith, are.partition)))
    (mbr_signature_printed p.signature are.signature inner.1) (number_printed p.start are.start)
    (number_printed p.size are.size))

-- the printed segment means the node
pub segment_means : EachNodeIsSpelled → (node : Node) → IsNode node → means.MeansNode (segment_of node) node
segment_means law (Pci function device) valid = means.pci (number_printed device (omega (arith, valid.1))) (number_printed function (omega (arith, valid.0)))
segment_means law (VendorHw vendor) valid = means.vendor_hw (vendor_text_printed vendor valid)
segment_means law (Acpi hid uid) valid = acpi_printed hid uid valid.0 valid.1
segment_means law (Usb port interface) valid = means.usb (number_printed port (omega (arith, valid.0))) (number_printed interface (omega (arith, valid.1)))
segment_means law (VendorMsg vendor) valid = means.vendor_msg (vendor_text_printed vendor valid)
segment_means law (Mac address if_kind) valid =
    chosen (λ s. means.MeansNode s (Mac address if_kind)) (is_plain_mac address if_kind) (mac_segment address if_kind)
    (generic_segment (row_of (Mac address if_kind)))
    (λ e. mac_printed address if_kind valid.0 e) (λ _. generic_printed law (Mac address if_kind) valid)
segment_means law (Ipv4 parts) valid =
    chosen (λ s. means.MeansNode s (Ipv4 parts)) (is_plain_ipv4 parts) (ipv4_segment parts) (generic_segment (row_of (Ipv4 parts)))
    (λ e. ipv4_printed parts valid e) (λ _. generic_printed law (Ipv4 parts) valid)
segment_means law (Sata hba multiplier lun) valid = means.sata (number_printed hba (omega (arith, valid.0)))
    (number_printed multiplier (omega (arith, valid.1))) (number_printed lun (omega (arith, valid.2)))
segment_means law (Vlan id) valid = means.vlan (number_printed id (omega (arith, valid)))
segment_means law (Nvme namespace eui) valid = means.nvme (number_printed namespace (omega (arith, valid.0))) (eui_printed eui valid.1.1)
segment_means law (Uri bytes) valid =
    chosen (λ s. means.MeansNode s (Uri bytes)) (list_all (is_plain_from 0x21) bytes) (named (codes "Uri") (bytes ∷ [])) (generic_segment (row_of (Uri bytes)))
    (λ e. means.uri (uri_bytes_printed bytes e)) (λ _. generic_printed law (Uri bytes) valid)
segment_means law (HardDrive parts) valid =
    let gpt = partition_segment parts (codes "GPT") (guid_text parts.signature) in
    let mbr = partition_segment parts (codes "MBR") (mbr_text parts.signature) in
    let other = generic_segment (row_of (HardDrive parts)) in
    chosen (λ s. means.MeansNode s (HardDrive parts)) (is_gpt parts) gpt (if is_mbr parts then mbr else other)
    (λ e. gpt_printed parts valid e)
    (λ _. chosen (λ s. means.MeansNode s (HardDrive parts)) (is_mbr parts) mbr other (λ e. mbr_printed parts valid e)
    (λ _. generic_printed law (HardDrive parts) valid))
segment_means law (Cdrom entry start size) valid = means.cdrom (number_printed entry (omega (arith, valid.0)))
    (number_printed start valid.1) (number_printed size valid.2)
segment_means law (VendorMedia vendor) valid = means.vendor_media (vendor_text_printed vendor valid)
segment_means law (FilePath units) valid =
    chosen (λ s. means.MeansNode s (FilePath units)) (list_all (is_plain_from 0x20) units)
    (named (codes "File") (units ∷ [])) (generic_segment (row_of (FilePath units)))
    (λ e. means.file (name_units_printed units e)) (λ _. generic_printed law (FilePath units) valid)
segment_means law (Other other) valid = generic_printed law (Other other) valid

pub segment_stands : EachNodeIsSpelled → (node : Node) → IsNode node → IsNodeText (segment_of node) node
segment_stands law node valid = record { valid = valid; means = segment_means law node valid }
