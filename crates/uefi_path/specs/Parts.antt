-- What contracts see of the nodes that keep their fields to themselves.
use Rattle.std.specs.Prelude.{◌≢◌, ℕ, ◌<◌, ◌≤◌, ◌^◌, List, [], ◌∷◌, ◌++◌, length, take, drop}
use Rattle.std.specs.Prelude.{leb, Option, Some, None, if◌then◌else◌}
use Rattle.std.specs.List.{AllByRecursion}
use Rattle.std.specs.Int.{w8, w16, w32, w64, to_le_bytes}
use Rattle.uefi_path.specs.Standard.{body_max, vendor_body_max, path_name_max}
use Rattle.uefi_path.specs.Units.{units_bytes}
use Rattle.uefi_path.specs.Row.{IsByte, AreBytes}

-- what a vendor defines (UEFI 2.10, 10.3.2.4, 10.3.4.17, 10.3.5.3): an identifier, and data whose meaning it tells
pub record VendorParts : Type 0 where
  pub guid : List ℕ
  pub body : List ℕ

abbrev pub vendor_parts : List ℕ → List ℕ → VendorParts
vendor_parts guid body = record { guid = guid; body = body }

abbrev pub vendor_bytes : VendorParts → List ℕ
vendor_bytes p = p.guid ++ p.body

-- the parts of a vendor's data, if there are enough bytes for an identifier
abbrev pub vendor_of : List ℕ → Option VendorParts
vendor_of bytes =
    if leb 16 (length bytes) then Some (vendor_parts (take 16 bytes) (drop 16 bytes)) else None

pub record IsVendor (p : VendorParts) : Type 0 where
  pub guid : AreBytes 16 p.guid
  pub body : AllByRecursion IsByte p.body
  pub len : length p.body ≤ vendor_body_max

-- an IPv4 node (UEFI 2.10, 10.3.4.12)
pub record Ipv4Parts : Type 0 where
  pub local : List ℕ
  pub remote : List ℕ
  pub local_port : ℕ
  pub remote_port : ℕ
  pub protocol : ℕ
  pub fixed : ℕ
  pub gateway : List ℕ
  pub mask : List ℕ

abbrev pub ipv4_parts : List ℕ → List ℕ → ℕ → ℕ → ℕ → ℕ → List ℕ → List ℕ → Ipv4Parts
ipv4_parts local remote local_port remote_port protocol fixed gateway mask =
    record {
      local = local;
      remote = remote;
      local_port = local_port;
      remote_port = remote_port;
      protocol = protocol;
      fixed = fixed;
      gateway = gateway;
      mask = mask;
    }

abbrev pub ipv4_fields : Ipv4Parts → List (List ℕ)
ipv4_fields p =
    p.local ∷ p.remote ∷ to_le_bytes w16 p.local_port ∷ to_le_bytes w16 p.remote_port
    ∷ to_le_bytes w16 p.protocol ∷ to_le_bytes w8 p.fixed ∷ p.gateway ∷ p.mask ∷ []

pub record AreIpv4Parts (p : Ipv4Parts) : Type 0 where
  pub local : AreBytes 4 p.local
  pub remote : AreBytes 4 p.remote
  pub local_port : p.local_port < 2 ^ 16
  pub remote_port : p.remote_port < 2 ^ 16
  pub protocol : p.protocol < 2 ^ 16
  pub fixed : p.fixed < 2 ^ 8
  pub gateway : AreBytes 4 p.gateway
  pub mask : AreBytes 4 p.mask

-- the bytes of a URI node (UEFI 2.10, 10.3.4)
abbrev pub IsUri : List ℕ → Type 0
IsUri bytes = AllByRecursion IsByte bytes × (length bytes ≤ body_max)

-- a partition of a hard drive (UEFI 2.10, 10.3.5.1)
pub record HardDriveParts : Type 0 where
  pub partition : ℕ
  pub start : ℕ
  pub size : ℕ
  pub signature : List ℕ
  pub format : ℕ
  pub signature_kind : ℕ

abbrev pub hard_drive_parts : ℕ → ℕ → ℕ → List ℕ → ℕ → ℕ → HardDriveParts
hard_drive_parts partition start size signature format signature_kind =
    record {
      partition = partition;
      start = start;
      size = size;
      signature = signature;
      format = format;
      signature_kind = signature_kind;
    }

abbrev pub hard_drive_fields : HardDriveParts → List (List ℕ)
hard_drive_fields p =
    to_le_bytes w32 p.partition ∷ to_le_bytes w64 p.start ∷ to_le_bytes w64 p.size ∷ p.signature
    ∷ to_le_bytes w8 p.format ∷ to_le_bytes w8 p.signature_kind ∷ []

pub record AreHardDriveParts (p : HardDriveParts) : Type 0 where
  pub partition : p.partition < 2 ^ 32
  pub start : p.start < 2 ^ 64
  pub size : p.size < 2 ^ 64
  pub signature : AreBytes 16 p.signature
  pub format : p.format < 2 ^ 8
  pub signature_kind : p.signature_kind < 2 ^ 8

-- a unit of a name: a number of 16 bits and not zero
abbrev pub IsUnit : ℕ → Type 0
IsUnit n = (n ≢ 0) × (n < 2 ^ 16)

-- the units of a file's path name (UEFI 2.10, 10.3.5.4), without the zero after them
abbrev pub IsPathName : List ℕ → Type 0
IsPathName units = AllByRecursion IsUnit units × (length units ≤ path_name_max)

-- a path name as it is written: its units, and a zero
abbrev pub name_bytes : List ℕ → List ℕ
name_bytes units = units_bytes units ++ to_le_bytes w16 0
