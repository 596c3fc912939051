-- A segment means at most one node.
use Rattle.std.proofs.Common.{◌≡◌, ℕ, List, [], ◌∷◌, get_or, refl, sym, ap, subst, ◌∙◌, inl, inr, codes, arith}
use Rattle.uefi_path.specs.declared.node.Node.{Node}
use Rattle.uefi_path.specs.declared.node.Node.TheVariants.{
  Pci,
  VendorHw,
  Acpi,
  Usb,
  VendorMsg,
  Mac,
  Ipv4,
  Sata,
  Vlan,
  Nvme,
  Uri,
  HardDrive,
  Cdrom,
  VendorMedia,
  FilePath,
}
use Rattle.uefi_path.specs.Parts.{VendorParts, vendor_parts, ipv4_parts, hard_drive_parts}
use Rattle.uefi_path.specs.Row.{row, row_bytes}
use Rattle.uefi_path.specs.Node.{row_of, IsNode, SpellsNode}
use Rattle.uefi_text.specs.Segment.{Segment, named, bare}
use Rattle.uefi_path.specs.Standard.{pci_root_hid, pcie_root_hid}
use Rattle.uefi_text.specs.Node.{IsOptionalData, IsVendorText}
use Rattle.uefi_text.specs.Path.{IsNodeText}
use Rattle.uefi_text.proofs.Means.Texts.{
  first_code,
  number_one,
  hex_one,
  address_one,
  eui_one,
  guid_one,
  pnp_one,
  pnp_is_no_number,
  mac_address_one,
  mbr_signature_one,
  origin_one,
}
use Rattle.uefi_text.proofs.Means.Reads.{
  Form,
  pci_form,
  usb_form,
  sata_form,
  nvme_form,
  pci_root_form,
  pcie_root_form,
  acpi_form,
  mac_form,
  ipv4_form,
  vlan_form,
  uri_form,
  file_form,
  hard_drive_form,
  cdrom_form,
  vendor_hw_form,
  vendor_msg_form,
  vendor_media_form,
  generic_form,
  no_form,
  form_of,
  ReadsPci,
  ReadsUsb,
  ReadsSata,
  ReadsNvme,
  ReadsRoot,
  IsHid,
  ReadsAcpi,
  ReadsMac,
  ReadsIpv4,
  ReadsVlan,
  ReadsUri,
  ReadsFile,
  IsSignature,
  ReadsHardDrive,
  ReadsCdrom,
  ReadsVendor,
  ReadsGeneric,
  ReadsAs,
  ReadsSegment,
  reads_of,
}

-- what the crate of paths proves as a law: bytes spell at most one node
abbrev pub BytesSpellOneNode : Type 0
BytesSpellOneNode = (bytes : List ℕ) (m n : Node) → SpellsNode bytes m → SpellsNode bytes n → m ≡ n

-- one argument of lists that are one
pub same_argument : (k : ℕ) (as' bs : List (List ℕ)) → as' ≡ bs → get_or as' k [] ≡ get_or bs k []
same_argument k as' bs e = ap (λ (l : List (List ℕ)). get_or l k []) e

pci_one : (arguments : List (List ℕ)) (m n : Node) → ReadsPci arguments m → ReadsPci arguments n → m ≡ n
pci_one arguments m n p q =
    let are = sym p.are ∙ q.are in
    let ds : p.d ≡ q.d = number_one p.device q.device p.d q.d (same_argument 0 _ _ are) p.device_is q.device_is in
    let fs : p.f ≡ q.f = number_one p.function q.function p.f q.f (same_argument 1 _ _ are) p.function_is q.function_is in
    p.is ∙ ap (λ f. Pci f p.d) fs ∙ ap (λ d. Pci q.f d) ds ∙ sym q.is

usb_one : (arguments : List (List ℕ)) (m n : Node) → ReadsUsb arguments m → ReadsUsb arguments n → m ≡ n
usb_one arguments m n p q =
    let are = sym p.are ∙ q.are in
    let ps : p.p ≡ q.p = number_one p.port q.port p.p q.p (same_argument 0 _ _ are) p.port_is q.port_is in
    let is' : p.i ≡ q.i = number_one p.interface q.interface p.i q.i (same_argument 1 _ _ are) p.interface_is q.interface_is in
    p.is ∙ ap (λ x. Usb x p.i) ps ∙ ap (λ x. Usb q.p x) is' ∙ sym q.is

sata_one : (arguments : List (List ℕ)) (m n : Node) → ReadsSata arguments m → ReadsSata arguments n → m ≡ n
sata_one arguments m n p q =
    let are = sym p.are ∙ q.are in
    let hs : p.h ≡ q.h = number_one p.hba q.hba p.h q.h (same_argument 0 _ _ are) p.hba_is q.hba_is in
    let ms : p.m ≡ q.m = number_one p.multiplier q.multiplier p.m q.m (same_argument 1 _ _ are) p.multiplier_is q.multiplier_is in
    let ls : p.l ≡ q.l = number_one p.lun q.lun p.l q.l (same_argument 2 _ _ are) p.lun_is q.lun_is in
    p.is ∙ ap (λ x. Sata x p.m p.l) hs ∙ ap (λ x. Sata q.h x p.l) ms ∙ ap (λ x. Sata q.h q.m x) ls ∙ sym q.is

nvme_one : (arguments : List (List ℕ)) (m n : Node) → ReadsNvme arguments m → ReadsNvme arguments n → m ≡ n
nvme_one arguments m n p q =
    let are = sym p.are ∙ q.are in
    let ns : p.n ≡ q.n = number_one p.namespace q.namespace p.n q.n (same_argument 0 _ _ are) p.namespace_is q.namespace_is in
    let es : p.eui ≡ q.eui = eui_one p.identifier q.identifier p.eui q.eui (same_argument 1 _ _ are) p.identifier_is q.identifier_is in
    p.is ∙ ap (λ x. Nvme x p.eui) ns ∙ ap (λ (x : List ℕ). Nvme q.n x) es ∙ sym q.is

vlan_one : (arguments : List (List ℕ)) (m n : Node) → ReadsVlan arguments m → ReadsVlan arguments n → m ≡ n
vlan_one arguments m n p q =
    let is' : p.i ≡ q.i = number_one p.id q.id p.i q.i (same_argument 0 _ _ (sym p.are ∙ q.are)) p.id_is q.id_is in
    p.is ∙ ap (λ x. Vlan x) is' ∙ sym q.is

cdrom_one : (arguments : List (List ℕ)) (m n : Node) → ReadsCdrom arguments m → ReadsCdrom arguments n → m ≡ n
cdrom_one arguments m n p q =
    let are = sym p.are ∙ q.are in
    let es : p.e ≡ q.e = number_one p.entry q.entry p.e q.e (same_argument 0 _ _ are) p.entry_is q.entry_is in
    let starts : p.st ≡ q.st = number_one p.start q.start p.st q.st (same_argument 1 _ _ are) p.start_is q.start_is in
    let sizes : p.si ≡ q.si = number_one p.size q.size p.si q.si (same_argument 2 _ _ are) p.size_is q.size_is in
    p.is ∙ ap (λ x. Cdrom x p.st p.si) es ∙ ap (λ x. Cdrom q.e x p.si) starts ∙ ap (λ x. Cdrom q.e q.st x) sizes ∙ sym q.is

root_one : (hid : ℕ) (arguments : List (List ℕ)) (m n : Node) → ReadsRoot hid arguments m → ReadsRoot hid arguments n → m ≡ n
root_one hid arguments m n p q =
    let us : p.u ≡ q.u = number_one p.uid q.uid p.u q.u (same_argument 0 _ _ (sym p.are ∙ q.are)) p.uid_is q.uid_is in
    p.is ∙ ap (λ x. Acpi hid x) us ∙ sym q.is

pub hid_one : (s t : List ℕ) (m n : ℕ) → s ≡ t → IsHid s m → IsHid t n → m ≡ n
hid_one s t m n same (inl p) (inl q) = pnp_one s t m n same p q
hid_one s t m n same (inl p) (inr q) = absurd (pnp_is_no_number s t m n same p q)
hid_one s t m n same (inr p) (inl q) = absurd (pnp_is_no_number t s n m (sym same) q p)
hid_one s t m n same (inr p) (inr q) = number_one s t m n same p q

acpi_one : (arguments : List (List ℕ)) (m n : Node) → ReadsAcpi arguments m → ReadsAcpi arguments n → m ≡ n
acpi_one arguments m n p q =
    let are = sym p.are ∙ q.are in
    let hs : p.h ≡ q.h = hid_one p.hid q.hid p.h q.h (same_argument 0 _ _ are) p.hid_is q.hid_is in
    let us : p.u ≡ q.u = number_one p.uid q.uid p.u q.u (same_argument 1 _ _ are) p.uid_is q.uid_is in
    p.is ∙ ap (λ x. Acpi x p.u) hs ∙ ap (λ x. Acpi q.h x) us ∙ sym q.is

mac_one : (arguments : List (List ℕ)) (m n : Node) → ReadsMac arguments m → ReadsMac arguments n → m ≡ n
mac_one arguments m n p q =
    let are = sym p.are ∙ q.are in
    let bs : p.bytes ≡ q.bytes = mac_address_one p.address q.address p.bytes q.bytes (same_argument 0 _ _ are) p.address_is q.address_is in
    let ks : p.k ≡ q.k = number_one p.if_kind q.if_kind p.k q.k (same_argument 1 _ _ are) p.if_kind_is q.if_kind_is in
    p.is ∙ ap (λ (x : List ℕ). Mac x p.k) bs ∙ ap (λ x. Mac q.bytes x) ks ∙ sym q.is

ipv4_one : (arguments : List (List ℕ)) (m n : Node) → ReadsIpv4 arguments m → ReadsIpv4 arguments n → m ≡ n
ipv4_one arguments m n p q =
    let are = sym p.are ∙ q.are in
    let rs : p.r ≡ q.r = address_one p.remote q.remote p.r q.r (same_argument 0 _ _ are) p.remote_is q.remote_is in
    let ps : p.p ≡ q.p = number_one p.protocol q.protocol p.p q.p (same_argument 1 _ _ are) p.protocol_is q.protocol_is in
    let fs : p.f ≡ q.f = origin_one p.origin q.origin p.f q.f (same_argument 2 _ _ are) p.origin_is q.origin_is in
    let ls : p.l ≡ q.l = address_one p.local q.local p.l q.l (same_argument 3 _ _ are) p.local_is q.local_is in
    let gs : p.g ≡ q.g = address_one p.gateway q.gateway p.g q.g (same_argument 4 _ _ are) p.gateway_is q.gateway_is in
    let ms : p.m ≡ q.m = address_one p.mask q.mask p.m q.m (same_argument 5 _ _ are) p.mask_is q.mask_is in
    p.is ∙ ap (λ (x : List ℕ). Ipv4 (ipv4_parts p.l x 0 0 p.p p.f p.g p.m)) rs
    ∙ ap (λ x. Ipv4 (ipv4_parts p.l q.r 0 0 x p.f p.g p.m)) ps
    ∙ ap (λ x. Ipv4 (ipv4_parts p.l q.r 0 0 q.p x p.g p.m)) fs
    ∙ ap (λ (x : List ℕ). Ipv4 (ipv4_parts x q.r 0 0 q.p q.f p.g p.m)) ls
    ∙ ap (λ (x : List ℕ). Ipv4 (ipv4_parts q.l q.r 0 0 q.p q.f x p.m)) gs
    ∙ ap (λ (x : List ℕ). Ipv4 (ipv4_parts q.l q.r 0 0 q.p q.f q.g x)) ms ∙ sym q.is

uri_one : (arguments : List (List ℕ)) (m n : Node) → ReadsUri arguments m → ReadsUri arguments n → m ≡ n
uri_one arguments m n p q =
    p.is ∙ ap (λ (l : List (List ℕ)). Uri (get_or l 0 [])) (sym p.are ∙ q.are) ∙ sym q.is

file_one : (arguments : List (List ℕ)) (m n : Node) → ReadsFile arguments m → ReadsFile arguments n → m ≡ n
file_one arguments m n p q =
    p.is ∙ ap (λ (l : List (List ℕ)). FilePath (get_or l 0 [])) (sym p.are ∙ q.are) ∙ sym q.is

gpt_is_not_mbr : (f f' : List ℕ) → f ≡ f' → f ≡ codes "GPT" → f' ≡ codes "MBR" → ⊥
gpt_is_not_mbr f f' same gpt mbr = let first : 0x47 ≡ 0x4D = ap first_code (sym gpt ∙ same ∙ mbr) in omega (arith, first)

pub signature_one : (f f' s t : List ℕ) (k l : ℕ) (g h : List ℕ) → f ≡ f' → s ≡ t → IsSignature f s k g → IsSignature f' t l h → (k ≡ l) × (g ≡ h)
signature_one f f' s t k l g h format same (inl (is, guid, kind)) (inl (is', guid', kind')) = (kind ∙ sym kind', guid_one s t g h same guid guid')
signature_one f f' s t k l g h format same (inl (is, guid, kind)) (inr (is', number, kind')) = absurd (gpt_is_not_mbr f f' format is is')
signature_one f f' s t k l g h format same (inr (is, number, kind)) (inl (is', guid, kind')) = absurd (gpt_is_not_mbr f' f (sym format) is' is)
signature_one f f' s t k l g h format same (inr (is, number, kind)) (inr (is', number', kind')) =
    (kind ∙ sym kind', mbr_signature_one s t g h same number number')

hard_drive_one : (arguments : List (List ℕ)) (m n : Node) → ReadsHardDrive arguments m → ReadsHardDrive arguments n → m ≡ n
hard_drive_one arguments m n p q =
    let are = sym p.are ∙ q.are in
    let ps : p.p ≡ q.p = number_one p.partition q.partition p.p q.p (same_argument 0 _ _ are) p.partition_is q.partition_is in
    let signatures = signature_one p.format q.format p.signature q.signature p.kind q.kind p.g q.g
    (same_argument 1 _ _ are) (same_argument 2 _ _ are) p.signature_is q.signature_is in
    let sts : p.st ≡ q.st = number_one p.start q.start p.st q.st (same_argument 3 _ _ are) p.start_is q.start_is in
    let sis : p.si ≡ q.si = number_one p.size q.size p.si q.si (same_argument 4 _ _ are) p.size_is q.size_is in
    p.is ∙ ap (λ x. HardDrive (hard_drive_parts x p.st p.si p.g p.kind p.kind)) ps
    ∙ ap (λ x. HardDrive (hard_drive_parts q.p x p.si p.g p.kind p.kind)) sts
    ∙ ap (λ x. HardDrive (hard_drive_parts q.p q.st x p.g p.kind p.kind)) sis
    ∙ ap (λ (x : List ℕ). HardDrive (hard_drive_parts q.p q.st q.si x p.kind p.kind)) signatures.1
    ∙ ap (λ x. HardDrive (hard_drive_parts q.p q.st q.si q.g x x)) signatures.0 ∙ sym q.is

optional_data_same : (as' : List (List ℕ)) (a b : List ℕ) → IsOptionalData as' a → IsOptionalData as' b → a ≡ b
optional_data_same [] a b p q = p ∙ sym q
optional_data_same (hex ∷ []) a b p q = hex_one hex hex a b refl p q
optional_data_same (_ ∷ _ ∷ _) a b p q = absurd p

pub optional_data_one : (as' bs : List (List ℕ)) (a b : List ℕ) → as' ≡ bs → IsOptionalData as' a → IsOptionalData bs b → a ≡ b
optional_data_one as' bs a b same p q = optional_data_same bs a b (subst (λ (x : List (List ℕ)). IsOptionalData x a) same p) q

pub vendor_text_one : (arguments : List (List ℕ)) (v w : VendorParts) → IsVendorText arguments v → IsVendorText arguments w → v ≡ w
vendor_text_one [] v w p q = absurd p
vendor_text_one (guid ∷ more) v w p q =
    ap (λ (g : List ℕ). vendor_parts g v.body) (guid_one guid guid v.guid w.guid refl p.0 q.0)
    ∙ ap (λ (b : List ℕ). vendor_parts w.guid b) (optional_data_same more v.body w.body p.1 q.1)

vendor_one : (of : VendorParts → Node) (arguments : List (List ℕ)) (m n : Node) → ReadsVendor of arguments m → ReadsVendor of arguments n → m ≡ n
vendor_one of arguments m n p q = p.is ∙ ap of (vendor_text_one arguments p.vendor q.vendor p.are q.are) ∙ sym q.is

-- nodes of one row are one
pub node_of_row : BytesSpellOneNode → (m n : Node) → IsNode m → IsNode n → row_of m ≡ row_of n → m ≡ n
node_of_row law m n valid valid' same = law (row_bytes (row_of m)) m n (valid, refl) (valid', ap row_bytes same)

abbrev pub behind_two : List (List ℕ) → List (List ℕ)
behind_two (_ ∷ _ ∷ more) = more
behind_two _ = []

generic_one : BytesSpellOneNode → (arguments : List (List ℕ)) (m n : Node) → IsNode m → IsNode n → ReadsGeneric arguments m → ReadsGeneric arguments n → m ≡ n
generic_one law arguments m n valid valid' p q =
    let are = sym p.are ∙ q.are in
    let ks : p.k ≡ q.k = number_one p.kind q.kind p.k q.k (same_argument 0 _ _ are) p.kind_is q.kind_is in
    let ss : p.s ≡ q.s = number_one p.sub q.sub p.s q.s (same_argument 1 _ _ are) p.sub_is q.sub_is in
    let bs : p.body ≡ q.body = optional_data_one p.more q.more p.body q.body (ap behind_two are) p.body_is q.body_is in
    node_of_row law m n valid valid' (p.is ∙ ap (λ x. row x p.s p.body) ks ∙ ap (λ x. row q.k x p.body) ss ∙ ap (λ (x : List ℕ). row q.k q.s x) bs ∙ sym q.is)

reads_one : BytesSpellOneNode → (form : Form) (arguments : List (List ℕ)) (m n : Node) → IsNode m → IsNode n →
    ReadsAs form arguments m → ReadsAs form arguments n → m ≡ n
reads_one law pci_form arguments m n valid valid' p q = pci_one arguments m n p q
reads_one law usb_form arguments m n valid valid' p q = usb_one arguments m n p q
reads_one law sata_form arguments m n valid valid' p q = sata_one arguments m n p q
reads_one law nvme_form arguments m n valid valid' p q = nvme_one arguments m n p q
reads_one law pci_root_form arguments m n valid valid' p q = root_one pci_root_hid arguments m n p q
reads_one law pcie_root_form arguments m n valid valid' p q = root_one pcie_root_hid arguments m n p q
reads_one law acpi_form arguments m n valid valid' p q = acpi_one arguments m n p q
reads_one law mac_form arguments m n valid valid' p q = mac_one arguments m n p q
reads_one law ipv4_form arguments m n valid valid' p q = ipv4_one arguments m n p q
reads_one law vlan_form arguments m n valid valid' p q = vlan_one arguments m n p q
reads_one law uri_form arguments m n valid valid' p q = uri_one arguments m n p q
reads_one law file_form arguments m n valid valid' p q = file_one arguments m n p q
reads_one law hard_drive_form arguments m n valid valid' p q = hard_drive_one arguments m n p q
reads_one law cdrom_form arguments m n valid valid' p q = cdrom_one arguments m n p q
reads_one law vendor_hw_form arguments m n valid valid' p q = vendor_one (λ v. VendorHw v) arguments m n p q
reads_one law vendor_msg_form arguments m n valid valid' p q = vendor_one (λ v. VendorMsg v) arguments m n p q
reads_one law vendor_media_form arguments m n valid valid' p q = vendor_one (λ v. VendorMedia v) arguments m n p q
reads_one law generic_form arguments m n valid valid' p q = generic_one law arguments m n valid valid' p q
reads_one law no_form arguments m n valid valid' p q = absurd p

segment_reads_one : BytesSpellOneNode → (s : Segment) (m n : Node) → IsNode m → IsNode n → ReadsSegment s m → ReadsSegment s n → m ≡ n
segment_reads_one law (named name arguments) m n valid valid' p q = reads_one law (form_of name) arguments m n valid valid' p q
segment_reads_one law (bare units) m n valid valid' p q = p.1 ∙ sym q.1

-- a segment stands for at most one node
pub node_text_one : BytesSpellOneNode → (s : Segment) (m n : Node) → IsNodeText s m → IsNodeText s n → m ≡ n
node_text_one law s m n p q = segment_reads_one law s m n p.valid q.valid (reads_of s m p.means) (reads_of s n q.means)
