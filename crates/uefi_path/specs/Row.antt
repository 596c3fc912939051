-- The generic device path node (UEFI 2.10, 10.3.1): a type, a sub-type, a length, and data.
use Rattle.std.specs.Prelude.{◌≡◌, ◌≢◌, ℕ, ◌+◌, ◌^◌, ◌<◌, ◌≤◌, List, [], ◌∷◌, ◌++◌, length}
use Rattle.std.specs.List.{AllByRecursion}
use Rattle.std.specs.Int.{w16, from_le_bytes, to_le_bytes}
use Rattle.uefi_path.specs.Standard.{body_max}

-- a node as its type, its sub-type and its data, whatever these mean
pub record Row : Type 0 where
  pub kind : ℕ
  pub sub : ℕ
  pub body : List ℕ

abbrev pub row : ℕ → ℕ → List ℕ → Row
row kind sub body = record { kind = kind; sub = sub; body = body }

-- the four bytes before the data: type, sub-type, and the length of the whole node
abbrev pub header_bytes : ℕ → ℕ → ℕ → List ℕ
header_bytes kind sub len = kind ∷ sub ∷ to_le_bytes w16 len

-- the spelling of a row: its header and its data, whose length two bytes state if IsRow holds
abbrev pub row_bytes : Row → List ℕ
row_bytes r = header_bytes r.kind r.sub (4 + length r.body) ++ r.body

-- the node that ends one instance, if another follows, and the node that ends the whole path
abbrev pub end_instance : Row
end_instance = row 0x7F 0x01 []

abbrev pub end_entire : Row
end_entire = row 0x7F 0xFF []

abbrev pub IsByte : ℕ → Type 0
IsByte n = n < 2 ^ 8

-- these are this many bytes
abbrev pub AreBytes : ℕ → List ℕ → Type 0
AreBytes n bytes = (length bytes ≡ n) × AllByRecursion IsByte bytes

-- its numbers are bytes, and two bytes can state its length
pub record IsRow (r : Row) : Type 0 where
  pub kind : IsByte r.kind
  pub sub : IsByte r.sub
  pub body : AllByRecursion IsByte r.body
  pub len : length r.body ≤ body_max

-- data of 16-bit units, the last of which is zero and no earlier one
pub data IsClosed : List ℕ → Type 0 where
  last_zero : IsClosed (0 ∷ 0 ∷ [])
  another_unit : {low high : ℕ} {rest : List ℕ} → from_le_bytes w16 (low ∷ high ∷ []) ≢ 0 → IsClosed rest
      → IsClosed (low ∷ high ∷ rest)

-- The rows of the nodes with a case of their own, one case for each row of the table of nodes: type,
-- sub-type, and what the data must be (UEFI 2.10: hardware 10.3.2, ACPI 10.3.3, messaging 10.3.4, media 10.3.5).
pub data IsListed : Row → Type 0 where
  pci : {body : List ℕ} → length body ≡ 2 → IsListed (row 1 1 body)
  vendor_hw : {body : List ℕ} → 16 ≤ length body → IsListed (row 1 4 body)
  acpi : {body : List ℕ} → length body ≡ 8 → IsListed (row 2 1 body)
  usb : {body : List ℕ} → length body ≡ 2 → IsListed (row 3 5 body)
  vendor_msg : {body : List ℕ} → 16 ≤ length body → IsListed (row 3 10 body)
  mac : {body : List ℕ} → length body ≡ 33 → IsListed (row 3 11 body)
  ipv4 : {body : List ℕ} → length body ≡ 23 → IsListed (row 3 12 body)
  sata : {body : List ℕ} → length body ≡ 6 → IsListed (row 3 18 body)
  vlan : {body : List ℕ} → length body ≡ 2 → IsListed (row 3 20 body)
  nvme : {body : List ℕ} → length body ≡ 12 → IsListed (row 3 23 body)
  uri : {body : List ℕ} → IsListed (row 3 24 body)
  hard_drive : {body : List ℕ} → length body ≡ 38 → IsListed (row 4 1 body)
  cdrom : {body : List ℕ} → length body ≡ 20 → IsListed (row 4 2 body)
  vendor_media : {body : List ℕ} → 16 ≤ length body → IsListed (row 4 3 body)
  file_path : {body : List ℕ} → IsClosed body → IsListed (row 4 4 body)

-- what is kept as bytes: no end node, and no row of the table
pub record IsOther (r : Row) : Type 0 where
  pub row : IsRow r
  pub no_end : r.kind ≢ 0x7F
  pub unlisted : ¬ IsListed r
