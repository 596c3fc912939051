-- For private functions of the reader: how a node is read from its row, the inverse of the table, and what is at the
-- start of some bytes.
use Rattle.std.specs.Prelude.{◌≡◌, ◌⊎◌, ◌≢◌, ℕ, Bool, List, [], ◌∷◌, ◌++◌, length, take, drop}
use Rattle.std.specs.Prelude.{Option, Some, None, unwrap_or, ◌==◌, ◌&&◌, if◌then◌else◌, ◌<◌, ◌≤◌}
use Rattle.std.specs.Option.{option_map, option_or}
use Rattle.std.specs.Int.{Width, byte_len, w8, w16, w32, w64, from_le_bytes}
use Rattle.uefi_path.specs.declared.node.Node.{Node}
use Rattle.uefi_path.specs.declared.node.Node.TheVariants.{Pci, Acpi, Usb, Mac, Ipv4, Sata, Vlan, Nvme, HardDrive, Cdrom}
use Rattle.uefi_path.specs.declared.node.Node.TheVariants.{VendorHw, VendorMsg, Uri, VendorMedia, FilePath, Other}
use Rattle.uefi_path.specs.declared.fault.PathFault.{PathFault}
use Rattle.uefi_path.specs.declared.fault.PathFault.TheVariants.{BadLength, PastEnd, BadEnd}
use Rattle.uefi_path.specs.Parts.{vendor_of, Ipv4Parts, ipv4_parts, HardDriveParts, hard_drive_parts}
use Rattle.uefi_path.specs.Row.{Row, IsRow, row_bytes, end_instance, end_entire}
use Rattle.uefi_path.specs.Path.{IsPath, path_rows}
use Rattle.uefi_path.specs.Fault.{IsEnd}

-- the one value if the test holds, and the other if it does not
infixr 4 ◌when◌otherwise◌
abbrev pub ◌when◌otherwise◌ : {X : Type 0} → X → Bool → X → X
x when b otherwise y = if b then x else y

-- this many bytes at an offset of the data
abbrev pub bytes_at : ℕ → ℕ → List ℕ → List ℕ
bytes_at at count body = take count (drop at body)

-- the number of this width at an offset of the data
abbrev pub number_at : Width → ℕ → List ℕ → ℕ
number_at w at body = from_le_bytes w (bytes_at at (byte_len w) body)

-- the row has this type, sub-type and length of the data
abbrev pub has_shape : ℕ → ℕ → ℕ → Row → Bool
has_shape kind sub len r = r.kind == kind && (r.sub == sub && length r.body == len)

abbrev pub ipv4_at : List ℕ → Ipv4Parts
ipv4_at body =
    ipv4_parts (bytes_at 0 4 body) (bytes_at 4 4 body)
    (number_at w16 8 body) (number_at w16 10 body) (number_at w16 12 body)
    (number_at w8 14 body) (bytes_at 15 4 body) (bytes_at 19 4 body)

abbrev pub hard_drive_at : List ℕ → HardDriveParts
hard_drive_at body =
    hard_drive_parts (number_at w32 0 body) (number_at w64 4 body) (number_at w64 12 body)
    (bytes_at 20 16 body) (number_at w8 36 body) (number_at w8 37 body)

-- the row has this type and sub-type
abbrev pub has_type : ℕ → ℕ → Row → Bool
has_type kind sub r = r.kind == kind && r.sub == sub

-- the units before the first zero unit, if the data ends after it
abbrev pub name_of : List ℕ → Option (List ℕ)
name_of (low ∷ high ∷ rest) =
    let unit = from_le_bytes w16 (low ∷ high ∷ []) in
    if unit == 0 then (if length rest == 0 then Some [] else None)
    else option_map (λ units. unit ∷ units) (name_of rest)
name_of _ = None

-- the node of a row with data of one length
abbrev pub fixed_node_of : Row → Option Node
fixed_node_of r =
    Some (Pci (number_at w8 0 r.body) (number_at w8 1 r.body)) when has_shape 1 1 2 r otherwise
    Some (Acpi (number_at w32 0 r.body) (number_at w32 4 r.body)) when has_shape 2 1 8 r otherwise
    Some (Usb (number_at w8 0 r.body) (number_at w8 1 r.body)) when has_shape 3 5 2 r otherwise
    Some (Mac (bytes_at 0 32 r.body) (number_at w8 32 r.body)) when has_shape 3 11 33 r otherwise
    Some (Ipv4 (ipv4_at r.body)) when has_shape 3 12 23 r otherwise
    Some (Sata (number_at w16 0 r.body) (number_at w16 2 r.body) (number_at w16 4 r.body))
    when has_shape 3 18 6 r otherwise
    Some (Vlan (number_at w16 0 r.body)) when has_shape 3 20 2 r otherwise
    Some (Nvme (number_at w32 0 r.body) (bytes_at 4 8 r.body)) when has_shape 3 23 12 r otherwise
    Some (HardDrive (hard_drive_at r.body)) when has_shape 4 1 38 r otherwise
    Some (Cdrom (number_at w32 0 r.body) (number_at w64 4 r.body) (number_at w64 12 r.body))
    when has_shape 4 2 20 r otherwise
    None

-- the node of a row that holds a list, if the data is one of its type
abbrev pub list_node_of : Row → Option Node
list_node_of r =
    option_map (λ vendor. VendorHw vendor) (vendor_of r.body) when has_type 1 4 r otherwise
    option_map (λ vendor. VendorMsg vendor) (vendor_of r.body) when has_type 3 10 r otherwise
    Some (Uri r.body) when has_type 3 24 r otherwise
    option_map (λ vendor. VendorMedia vendor) (vendor_of r.body) when has_type 4 3 r otherwise
    option_map (λ units. FilePath units) (name_of r.body) when has_type 4 4 r otherwise
    None

-- the node with a case of its own that has the row
abbrev pub typed_node_of : Row → Option Node
typed_node_of r = option_or (fixed_node_of r) (list_node_of r)

-- the node that has the row, if the row isn't an end node's
abbrev pub node_of : Row → Node
node_of r = unwrap_or (typed_node_of r) (Other r)

-- the bytes begin with a row, of a node or an end node
pub record SplitsRow (bytes : List ℕ) (r : Row) (rest : List ℕ) : Type 0 where
  pub parts : bytes ≡ row_bytes r ++ rest
  pub row : IsRow r
  pub ends : (r.kind ≢ 0x7F) ⊎ ((r ≡ end_instance) ⊎ (r ≡ end_entire))

-- the header of a node, if this many bytes remain from its first one on
pub record IsHeader (kind sub len remaining : ℕ) : Type 0 where
  pub least : 4 ≤ len
  pub within : len ≤ remaining
  pub ends : kind ≡ 0x7F → IsEnd sub len

-- the fault of such a header, at this offset
abbrev pub IsHeaderFault : PathFault → ℕ → ℕ → ℕ → ℕ → ℕ → Type 0
IsHeaderFault (BadLength at) kind sub len remaining offset = (at ≡ offset) × (len < 4)
IsHeaderFault (PastEnd at stated left) kind sub len remaining offset =
    (at ≡ offset) × (stated ≡ len) × (left ≡ remaining) × (4 ≤ len) × (remaining < len)
IsHeaderFault (BadEnd at) kind sub len remaining offset =
    (at ≡ offset) × (kind ≡ 0x7F) × (4 ≤ len) × (len ≤ remaining) × (¬ IsEnd sub len)
IsHeaderFault _ kind sub len remaining offset = ⊥

-- the instances are a path, and these are its rows
pub record HasRowsOf (instances : List (List Node)) (rows : List Row) : Type 0 where
  pub is : IsPath instances
  pub same : path_rows instances ≡ rows
