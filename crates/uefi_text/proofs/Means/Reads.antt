-- What a segment means, form by form: its name decides the form, and the form says how its arguments are read.
use Rattle.std.proofs.Common.{◌≡◌, ◌≤◌, ◌⊎◌, ◌==◌, ℕ, Bool, cond, List, [], ◌∷◌, refl, inl, inr, codes}
use Rattle.std.specs.Cmp.Lexicographic.{pointwise}
use Rattle.std.specs.List.{AllByRecursion}
use Rattle.uefi_path.specs.declared.node.Node.{Node}
use Rattle.uefi_path.specs.declared.node.Node.TheVariants.{
  Pci,
  VendorHw,
  Acpi,
  Usb,
  VendorMsg,
  Mac,
  Ipv4,
  Sata,
  Vlan,
  Nvme,
  Uri,
  HardDrive,
  Cdrom,
  VendorMedia,
  FilePath,
}
use Rattle.uefi_path.specs.Parts.{VendorParts, ipv4_parts, hard_drive_parts}
use Rattle.uefi_path.specs.Row.{row}
use Rattle.uefi_path.specs.Node.{row_of}
use Rattle.uefi_path.specs.Standard.{pci_root_hid, pcie_root_hid}
use Rattle.uefi_text.specs.Number.{IsNumber}
use Rattle.uefi_text.specs.Bytes.{IsAddress, IsEui}
use Rattle.uefi_text.specs.Guid.{IsGuid}
use Rattle.uefi_text.specs.Segment.{Segment, named, bare}
use Rattle.uefi_text.specs.Node as means

-- the forms of named segments
pub data Form : Type 0 where
  pci_form : Form
  usb_form : Form
  sata_form : Form
  nvme_form : Form
  pci_root_form : Form
  pcie_root_form : Form
  acpi_form : Form
  mac_form : Form
  ipv4_form : Form
  vlan_form : Form
  uri_form : Form
  file_form : Form
  hard_drive_form : Form
  cdrom_form : Form
  vendor_hw_form : Form
  vendor_msg_form : Form
  vendor_media_form : Form
  generic_form : Form
  no_form : Form

abbrev pub is_named : List ℕ → List ℕ → Bool
is_named name other = pointwise ◌==◌ name other

abbrev pub form_of : List ℕ → Form
form_of name =
    cond (is_named name (codes "Pci")) pci_form
    (cond (is_named name (codes "USB")) usb_form
    (cond (is_named name (codes "Sata")) sata_form
    (cond (is_named name (codes "NVMe")) nvme_form
    (cond (is_named name (codes "PciRoot")) pci_root_form
    (cond (is_named name (codes "PcieRoot")) pcie_root_form
    (cond (is_named name (codes "Acpi")) acpi_form
    (cond (is_named name (codes "MAC")) mac_form
    (cond (is_named name (codes "IPv4")) ipv4_form
    (cond (is_named name (codes "Vlan")) vlan_form
    (cond (is_named name (codes "Uri")) uri_form
    (cond (is_named name (codes "File")) file_form
    (cond (is_named name (codes "HD")) hard_drive_form
    (cond (is_named name (codes "CDROM")) cdrom_form
    (cond (is_named name (codes "VenHw")) vendor_hw_form
    (cond (is_named name (codes "VenMsg")) vendor_msg_form
    (cond (is_named name (codes "VenMedia")) vendor_media_form
    (cond (is_named name (codes "Path")) generic_form
    no_form)))))))))))))))))

pub record ReadsPci (arguments : List (List ℕ)) (node : Node) : Type 0 where
  pub device : List ℕ
  pub function : List ℕ
  pub d : ℕ
  pub f : ℕ
  pub are : arguments ≡ device ∷ function ∷ []
  pub device_is : IsNumber device d
  pub function_is : IsNumber function f
  pub is : node ≡ Pci f d

pub record ReadsUsb (arguments : List (List ℕ)) (node : Node) : Type 0 where
  pub port : List ℕ
  pub interface : List ℕ
  pub p : ℕ
  pub i : ℕ
  pub are : arguments ≡ port ∷ interface ∷ []
  pub port_is : IsNumber port p
  pub interface_is : IsNumber interface i
  pub is : node ≡ Usb p i

pub record ReadsSata (arguments : List (List ℕ)) (node : Node) : Type 0 where
  pub hba : List ℕ
  pub multiplier : List ℕ
  pub lun : List ℕ
  pub h : ℕ
  pub m : ℕ
  pub l : ℕ
  pub are : arguments ≡ hba ∷ multiplier ∷ lun ∷ []
  pub hba_is : IsNumber hba h
  pub multiplier_is : IsNumber multiplier m
  pub lun_is : IsNumber lun l
  pub is : node ≡ Sata h m l

pub record ReadsNvme (arguments : List (List ℕ)) (node : Node) : Type 0 where
  pub namespace : List ℕ
  pub identifier : List ℕ
  pub n : ℕ
  pub eui : List ℕ
  pub are : arguments ≡ namespace ∷ identifier ∷ []
  pub namespace_is : IsNumber namespace n
  pub identifier_is : IsEui identifier eui
  pub is : node ≡ Nvme n eui

-- a root with this hardware identifier
pub record ReadsRoot (hid : ℕ) (arguments : List (List ℕ)) (node : Node) : Type 0 where
  pub uid : List ℕ
  pub u : ℕ
  pub are : arguments ≡ uid ∷ []
  pub uid_is : IsNumber uid u
  pub is : node ≡ Acpi hid u

-- a hardware identifier that begins with PNP, or a number
abbrev pub IsHid : List ℕ → ℕ → Type 0
IsHid text hid = means.IsPnp text hid ⊎ IsNumber text hid

pub record ReadsAcpi (arguments : List (List ℕ)) (node : Node) : Type 0 where
  pub hid : List ℕ
  pub uid : List ℕ
  pub h : ℕ
  pub u : ℕ
  pub are : arguments ≡ hid ∷ uid ∷ []
  pub hid_is : IsHid hid h
  pub uid_is : IsNumber uid u
  pub is : node ≡ Acpi h u

pub record ReadsMac (arguments : List (List ℕ)) (node : Node) : Type 0 where
  pub address : List ℕ
  pub if_kind : List ℕ
  pub bytes : List ℕ
  pub k : ℕ
  pub are : arguments ≡ address ∷ if_kind ∷ []
  pub address_is : means.IsMacAddress address bytes
  pub if_kind_is : IsNumber if_kind k
  pub plain : k ≤ 1
  pub is : node ≡ Mac bytes k

pub record ReadsIpv4 (arguments : List (List ℕ)) (node : Node) : Type 0 where
  pub remote : List ℕ
  pub protocol : List ℕ
  pub origin : List ℕ
  pub local : List ℕ
  pub gateway : List ℕ
  pub mask : List ℕ
  pub r : List ℕ
  pub p : ℕ
  pub f : ℕ
  pub l : List ℕ
  pub g : List ℕ
  pub m : List ℕ
  pub are : arguments ≡ remote ∷ protocol ∷ origin ∷ local ∷ gateway ∷ mask ∷ []
  pub remote_is : IsAddress remote r
  pub protocol_is : IsNumber protocol p
  pub origin_is : means.IsOrigin origin f
  pub local_is : IsAddress local l
  pub gateway_is : IsAddress gateway g
  pub mask_is : IsAddress mask m
  pub is : node ≡ Ipv4 (ipv4_parts l r 0 0 p f g m)

pub record ReadsVlan (arguments : List (List ℕ)) (node : Node) : Type 0 where
  pub id : List ℕ
  pub i : ℕ
  pub are : arguments ≡ id ∷ []
  pub id_is : IsNumber id i
  pub is : node ≡ Vlan i

pub record ReadsUri (arguments : List (List ℕ)) (node : Node) : Type 0 where
  pub bytes : List ℕ
  pub are : arguments ≡ bytes ∷ []
  pub plain : AllByRecursion means.IsUriByte bytes
  pub is : node ≡ Uri bytes

pub record ReadsFile (arguments : List (List ℕ)) (node : Node) : Type 0 where
  pub units : List ℕ
  pub are : arguments ≡ units ∷ []
  pub plain : AllByRecursion means.IsNameUnit units
  pub is : node ≡ FilePath units

-- the format of a partition table and its signature: a GUID, or a number of 32 bits
abbrev pub IsSignature : List ℕ → List ℕ → ℕ → List ℕ → Type 0
IsSignature format text kind signature =
    ((format ≡ codes "GPT") × IsGuid text signature × (kind ≡ 2))
    ⊎ ((format ≡ codes "MBR") × means.IsMbrSignature text signature × (kind ≡ 1))

pub record ReadsHardDrive (arguments : List (List ℕ)) (node : Node) : Type 0 where
  pub partition : List ℕ
  pub format : List ℕ
  pub signature : List ℕ
  pub start : List ℕ
  pub size : List ℕ
  pub p : ℕ
  pub kind : ℕ
  pub g : List ℕ
  pub st : ℕ
  pub si : ℕ
  pub are : arguments ≡ partition ∷ format ∷ signature ∷ start ∷ size ∷ []
  pub partition_is : IsNumber partition p
  pub signature_is : IsSignature format signature kind g
  pub start_is : IsNumber start st
  pub size_is : IsNumber size si
  pub is : node ≡ HardDrive (hard_drive_parts p st si g kind kind)

pub record ReadsCdrom (arguments : List (List ℕ)) (node : Node) : Type 0 where
  pub entry : List ℕ
  pub start : List ℕ
  pub size : List ℕ
  pub e : ℕ
  pub st : ℕ
  pub si : ℕ
  pub are : arguments ≡ entry ∷ start ∷ size ∷ []
  pub entry_is : IsNumber entry e
  pub start_is : IsNumber start st
  pub size_is : IsNumber size si
  pub is : node ≡ Cdrom e st si

-- a vendor's node of a type
pub record ReadsVendor (of : VendorParts → Node) (arguments : List (List ℕ)) (node : Node) : Type 0 where
  pub vendor : VendorParts
  pub are : means.IsVendorText arguments vendor
  pub is : node ≡ of vendor

pub record ReadsGeneric (arguments : List (List ℕ)) (node : Node) : Type 0 where
  pub kind : List ℕ
  pub sub : List ℕ
  pub more : List (List ℕ)
  pub k : ℕ
  pub s : ℕ
  pub body : List ℕ
  pub are : arguments ≡ kind ∷ sub ∷ more
  pub kind_is : IsNumber kind k
  pub sub_is : IsNumber sub s
  pub body_is : means.IsOptionalData more body
  pub is : row_of node ≡ row k s body

-- the arguments of a segment of the form are read as the node
abbrev pub ReadsAs : Form → List (List ℕ) → Node → Type 0
ReadsAs pci_form arguments node = ReadsPci arguments node
ReadsAs usb_form arguments node = ReadsUsb arguments node
ReadsAs sata_form arguments node = ReadsSata arguments node
ReadsAs nvme_form arguments node = ReadsNvme arguments node
ReadsAs pci_root_form arguments node = ReadsRoot pci_root_hid arguments node
ReadsAs pcie_root_form arguments node = ReadsRoot pcie_root_hid arguments node
ReadsAs acpi_form arguments node = ReadsAcpi arguments node
ReadsAs mac_form arguments node = ReadsMac arguments node
ReadsAs ipv4_form arguments node = ReadsIpv4 arguments node
ReadsAs vlan_form arguments node = ReadsVlan arguments node
ReadsAs uri_form arguments node = ReadsUri arguments node
ReadsAs file_form arguments node = ReadsFile arguments node
ReadsAs hard_drive_form arguments node = ReadsHardDrive arguments node
ReadsAs cdrom_form arguments node = ReadsCdrom arguments node
ReadsAs vendor_hw_form arguments node = ReadsVendor (λ v. VendorHw v) arguments node
ReadsAs vendor_msg_form arguments node = ReadsVendor (λ v. VendorMsg v) arguments node
ReadsAs vendor_media_form arguments node = ReadsVendor (λ v. VendorMedia v) arguments node
ReadsAs generic_form arguments node = ReadsGeneric arguments node
ReadsAs no_form arguments node = ⊥

abbrev pub ReadsSegment : Segment → Node → Type 0
ReadsSegment (named name arguments) node = ReadsAs (form_of name) arguments node
ReadsSegment (bare units) node = means.IsBareName units × (node ≡ FilePath units)

-- a segment that means a node is read as it
pub reads_of : (s : Segment) (n : Node) → means.MeansNode s n → ReadsSegment s n
reads_of s n (means.pci device_is function_is) =
    record { device = _; function = _; d = _; f = _; are = refl; device_is = device_is; function_is = function_is; is = refl }
reads_of s n (means.usb port_is interface_is) =
    record { port = _; interface = _; p = _; i = _; are = refl; port_is = port_is; interface_is = interface_is; is = refl }
reads_of s n (means.sata hba_is multiplier_is lun_is) =
    record {
      hba = _;
      multiplier = _;
      lun = _;
      h = _;
      m = _;
      l = _;
      are = refl;
      hba_is = hba_is;
      multiplier_is =
          multiplier_is;
      lun_is = lun_is;
      is = refl;
    }
reads_of s n (means.nvme namespace_is identifier_is) =
    record {
      namespace = _;
      identifier = _;
      n = _;
      eui = _;
      are = refl;
      namespace_is = namespace_is;
      identifier_is =
          identifier_is;
      is = refl;
    }
reads_of s n (means.pci_root uid_is) = record { uid = _; u = _; are = refl; uid_is = uid_is; is = refl }
reads_of s n (means.pcie_root uid_is) = record { uid = _; u = _; are = refl; uid_is = uid_is; is = refl }
reads_of s n (means.acpi_pnp hid_is uid_is) = record { hid = _; uid = _; h = _; u = _; are = refl; hid_is = inl hid_is; uid_is = uid_is; is = refl }
reads_of s n (means.acpi hid_is uid_is) = record { hid = _; uid = _; h = _; u = _; are = refl; hid_is = inr hid_is; uid_is = uid_is; is = refl }
reads_of s n (means.mac address_is if_kind_is plain) =
    record {
      address = _;
      if_kind = _;
      bytes = _;
      k = _;
      are = refl;
      address_is = address_is;
      if_kind_is = if_kind_is;
      plain = plain;
      is = refl;
    }
reads_of s n (means.ipv4 remote_is protocol_is origin_is local_is gateway_is mask_is) =
    record {
      remote = _;
      protocol = _;
      origin = _;
      local = _;
      gateway = _;
      mask = _;
      r = _;
      p = _;
      f = _;
      l = _;
      g = _;
      m = _;
      are = refl;
      remote_is = remote_is;
      protocol_is = protocol_is;
      origin_is = origin_is;
      local_is =
          local_is;
      gateway_is = gateway_is;
      mask_is = mask_is;
      is = refl;
    }
reads_of s n (means.vlan id_is) = record { id = _; i = _; are = refl; id_is = id_is; is = refl }
reads_of s n (means.uri plain) = record { bytes = _; are = refl; plain = plain; is = refl }
reads_of s n (means.file plain) = record { units = _; are = refl; plain = plain; is = refl }
reads_of s n (means.bare_file plain) = (plain, refl)
reads_of s n (means.hd_gpt partition_is guid_is start_is size_is) =
    record {
      partition = _;
      format = _;
      signature = _;
      start = _;
      size = _;
      p = _;
      kind = 2;
      g = _;
      st = _;
      si = _;
      are = refl;
      partition_is = partition_is;
      signature_is = inl (refl, guid_is, refl);
      start_is = start_is;
      size_is =
          size_is;
      is = refl;
    }
reads_of s n (means.hd_mbr partition_is signature_is start_is size_is) =
    record {
      partition = _;
      format = _;
      signature = _;
      start = _;
      size = _;
      p = _;
      kind = 1;
      g = _;
      st = _;
      si = _;
      are = refl;
      partition_is = partition_is;
      signature_is = inr (refl, signature_is, refl);
      start_is = start_is;
      size_is = size_is;
      is = refl;
    }
reads_of s n (means.cdrom entry_is start_is size_is) =
    record {
      entry = _;
      start = _;
      size = _;
      e = _;
      st = _;
      si = _;
      are = refl;
      entry_is = entry_is;
      start_is =
          start_is;
      size_is = size_is;
      is = refl;
    }
reads_of s n (means.vendor_hw are) = record { vendor = _; are = are; is = refl }
reads_of s n (means.vendor_msg are) = record { vendor = _; are = are; is = refl }
reads_of s n (means.vendor_media are) = record { vendor = _; are = are; is = refl }
reads_of s n (means.generic kind_is sub_is body_is is) =
    record {
      kind = _;
      sub = _;
      more = _;
      k = _;
      s = _;
      body = _;
      are = refl;
      kind_is = kind_is;
      sub_is = sub_is;
      body_is = body_is;
      is = is;
    }
