-- The table of nodes has an inverse, and its listed rows are those that the inverse finds.
use Rattle.std.proofs.Common.{
  ◌<◌,
  ◌≤◌,
  leb,
  take,
  drop,
  ◌≡◌,
  ◌≢◌,
  ℕ,
  true,
  false,
  eqb,
  ◌&&◌,
  List,
  [],
  ◌∷◌,
  length,
  Option,
  Some,
  None,
  refl,
  sym,
  ap,
  subst,
  ◌∙◌,
  arith,
}
use Rattle.std.specs.Prelude.{is_some, IsSome, IfSome, unwrap_or}
use Rattle.std.specs.Option.{option_map, option_or}
use Rattle.std.specs.List.{concat}
use Rattle.std.specs.Int.{w8, w16, w32, w64, to_le_bytes}
use Rattle.std.proofs.lemmas.List.{length-append, length-drop, take_at, drop_at, take-append-drop}
use Rattle.std.proofs.lemmas.Bool.{leb-true, le-leb, eqb-true, eq-eqb, and_parts, cond_both, false≢true}
use Rattle.uefi_path.specs.declared.node.Node.{Node}
use Rattle.uefi_path.specs.declared.node.Node.TheVariants.{
  Pci,
  VendorHw,
  Acpi,
  Usb,
  VendorMsg,
  Mac,
  Ipv4,
  Sata,
  Vlan,
  Nvme,
  Uri,
  HardDrive,
  Cdrom,
  VendorMedia,
  FilePath,
  Other,
}
use Rattle.uefi_path.specs.Row.{
  IsByte,
  Row,
  row,
  IsRow,
  IsListed,
  IsOther,
  pci,
  acpi,
  usb,
  mac,
  ipv4,
  sata,
  vlan,
  nvme,
  uri,
  vendor_hw,
  vendor_msg,
  vendor_media,
  hard_drive,
  cdrom,
  file_path,
}
use Rattle.uefi_path.specs.Node.{row_of, IsNode, IsTyped, HasTypedNode}
use Rattle.uefi_path.specs.Parts.{
  VendorParts,
  vendor_parts,
  vendor_bytes,
  vendor_of,
  IsVendor,
  name_bytes,
  Ipv4Parts,
  AreIpv4Parts,
  ipv4_fields,
  HardDriveParts,
  AreHardDriveParts,
  hard_drive_fields,
}
use Rattle.uefi_path.specs.Reader.{
  has_shape,
  has_type,
  number_at,
  bytes_at,
  ipv4_at,
  hard_drive_at,
  fixed_node_of,
  list_node_of,
  typed_node_of,
  name_of,
  node_of,
}
use Rattle.uefi_path.proofs.Bytes.{bytes_from_recursion, recursion_from_bytes, AllByRecursion-append}
use Rattle.uefi_path.proofs.Names.{IsNamed, name_found, name_listed, name_again, name_length, name_of_bytes, name_closed}
use Rattle.uefi_path.proofs.Numbers.{
  IsBytes-drop,
  wide_8,
  wide_16,
  wide_32,
  wide_64,
  FieldsFrom,
  behind,
  array_again,
  number_again,
  HasLength,
  no_length,
  then_length,
  no_field,
  then_field,
  no_bytes,
  then_bytes,
  then_octets,
  then_array,
  array_bytes,
  number_below,
}

-- the row has this type, sub-type and length of the data
record HasShape (kind sub len : ℕ) (r : Row) : Type 0 where
  kind-is : r.kind ≡ kind
  sub-is : r.sub ≡ sub
  len-is : length r.body ≡ len

shape_is : (kind sub len : ℕ) (r : Row) → has_shape kind sub len r ≡ true → HasShape kind sub len r
shape_is kind sub len r e =
    let outer = and_parts (eqb r.kind kind) (eqb r.sub sub && eqb (length r.body) len) e in
    let inner = and_parts (eqb r.sub sub) (eqb (length r.body) len) outer.1 in
    record { kind-is = eqb-true _ _ outer.0; sub-is = eqb-true _ _ inner.0; len-is = eqb-true _ _ inner.1 }

row_is : (r : Row) (kind sub len : ℕ) (body : List ℕ) → HasShape kind sub len r → r.body ≡ body → row kind sub body ≡ r
row_is r kind sub len body shape e =
    ap (λ (k : ℕ). row k sub body) (sym shape.kind-is) ∙ ap (λ (s : ℕ). row r.kind s body) (sym shape.sub-is) ∙ ap (λ (b : List ℕ). row r.kind r.sub b) (sym e)

-- a node with a case of its own, its numbers in their ranges, that has the row
pub record IsFound (r : Row) (node : Node) : Type 0 where
  pub listed : IsListed r
  pub valid : IsNode node
  pub same : row_of node ≡ r
  pub own : IsTyped node

-- a node whose row is these fields
fixed_found : (kind sub len : ℕ) (r : Row) → HasShape kind sub len r → ((body : List ℕ) → length body ≡ len → IsListed (row kind sub body))
    → (node : Node) (fields : List (List ℕ)) → row_of node ≡ row kind sub (concat fields) →
    FieldsFrom 0 r.body fields → IsNode node → IsTyped node → IsFound r node
fixed_found kind sub len r shape listed node fields rows all valid own = record {
  listed = subst IsListed (row_is r kind sub len r.body shape refl) (listed r.body shape.len-is);
  valid = valid;
  same = rows ∙ row_is r kind sub len (concat fields) shape all.are;
  own = own;
}

pci_found : (r : Row) → IsRow r → HasShape 1 1 2 r → IsFound r (Pci (number_at w8 0 r.body) (number_at w8 1 r.body))
pci_found r is shape =
    let fits = bytes_from_recursion r.body is.body in
    let long : length r.body ≡ 2 = shape.len-is in
    fixed_found 1 1 2 r shape (λ body len. pci len) _ _ refl
    (then_field w8 _ wide_8 0 r.body fits (omega arith) (then_field w8 _ wide_8 1 r.body fits (omega arith) (no_field 2 r.body (omega arith))))
    (number_below w8 _ wide_8 0 r.body fits (omega arith), number_below w8 _ wide_8 1 r.body fits (omega arith)) tt

acpi_found : (r : Row) → IsRow r → HasShape 2 1 8 r → IsFound r (Acpi (number_at w32 0 r.body) (number_at w32 4 r.body))
acpi_found r is shape =
    let fits = bytes_from_recursion r.body is.body in
    let long : length r.body ≡ 8 = shape.len-is in
    fixed_found 2 1 8 r shape (λ body len. acpi len) _ _ refl
    (then_field w32 _ wide_32 0 r.body fits (omega arith) (then_field w32 _ wide_32 4 r.body fits (omega arith) (no_field 8 r.body (omega arith))))
    (number_below w32 _ wide_32 0 r.body fits (omega arith), number_below w32 _ wide_32 4 r.body fits (omega arith)) tt

usb_found : (r : Row) → IsRow r → HasShape 3 5 2 r → IsFound r (Usb (number_at w8 0 r.body) (number_at w8 1 r.body))
usb_found r is shape =
    let fits = bytes_from_recursion r.body is.body in
    let long : length r.body ≡ 2 = shape.len-is in
    fixed_found 3 5 2 r shape (λ body len. usb len) _ _ refl
    (then_field w8 _ wide_8 0 r.body fits (omega arith) (then_field w8 _ wide_8 1 r.body fits (omega arith) (no_field 2 r.body (omega arith))))
    (number_below w8 _ wide_8 0 r.body fits (omega arith), number_below w8 _ wide_8 1 r.body fits (omega arith)) tt

mac_found : (r : Row) → IsRow r → HasShape 3 11 33 r → IsFound r (Mac (bytes_at 0 32 r.body) (number_at w8 32 r.body))
mac_found r is shape =
    let fits = bytes_from_recursion r.body is.body in
    let long : length r.body ≡ 33 = shape.len-is in
    fixed_found 3 11 33 r shape (λ body len. mac len) _ _ refl
    (then_array 32 0 r.body (then_field w8 _ wide_8 32 r.body fits (omega arith) (no_field 33 r.body (omega arith))))
    (array_bytes 32 0 r.body fits (omega arith), number_below w8 _ wide_8 32 r.body fits (omega arith)) tt

ipv4_found : (r : Row) → IsRow r → HasShape 3 12 23 r → IsFound r (Ipv4 (ipv4_at r.body))
ipv4_found r is shape =
    let fits = bytes_from_recursion r.body is.body in
    let long : length r.body ≡ 23 = shape.len-is in
    fixed_found 3 12 23 r shape (λ body len. ipv4 len) _ (ipv4_fields (ipv4_at r.body)) refl
    (then_array 4 0 r.body (then_array 4 4 r.body (
    then_field w16 _ wide_16 8 r.body fits (omega arith)
    (then_field w16 _ wide_16 10 r.body fits (omega arith) (then_field w16 _ wide_16 12 r.body fits (omega arith) (
    then_field w8 _ wide_8 14 r.body fits (omega arith) (then_array 4 15 r.body (then_array 4 19 r.body (no_field 23 r.body (omega arith))))))))))
    (record {
      local = array_bytes 4 0 r.body fits (omega arith);
      remote = array_bytes 4 4 r.body fits (omega arith);
      local_port = number_below w16 _ wide_16 8 r.body fits (omega arith);
      remote_port = number_below w16 _ wide_16 10 r.body fits (omega arith);
      protocol = number_below w16 _ wide_16 12 r.body fits (omega arith);
      fixed = number_below w8 _ wide_8 14 r.body fits (omega arith);
      gateway = array_bytes 4 15 r.body fits (omega arith);
      mask = array_bytes 4 19 r.body fits (omega arith);
    }) tt

sata_found : (r : Row) → IsRow r → HasShape 3 18 6 r → IsFound r (Sata (number_at w16 0 r.body) (number_at w16 2 r.body) (number_at w16 4 r.body))
sata_found r is shape =
    let fits = bytes_from_recursion r.body is.body in
    let long : length r.body ≡ 6 = shape.len-is in
    fixed_found 3 18 6 r shape (λ body len. sata len) _ _ refl
    (then_field w16 _ wide_16 0 r.body fits (omega arith)
    (then_field w16 _ wide_16 2 r.body fits (omega arith)
    (then_field w16 _ wide_16 4 r.body fits (omega arith) (no_field 6 r.body (omega arith))))) (
      number_below w16 _ wide_16 0 r.body fits (omega arith),
      number_below w16 _ wide_16 2 r.body fits (omega arith),
      number_below w16 _ wide_16 4 r.body fits (omega arith),
    ) tt

vlan_found : (r : Row) → IsRow r → HasShape 3 20 2 r → IsFound r (Vlan (number_at w16 0 r.body))
vlan_found r is shape =
    let fits = bytes_from_recursion r.body is.body in
    let long : length r.body ≡ 2 = shape.len-is in
    fixed_found 3 20 2 r shape (λ body len. vlan len) _ _ refl
    (then_field w16 _ wide_16 0 r.body fits (omega arith) (no_field 2 r.body (omega arith)))
    (number_below w16 _ wide_16 0 r.body fits (omega arith)) tt

nvme_found : (r : Row) → IsRow r → HasShape 3 23 12 r → IsFound r (Nvme (number_at w32 0 r.body) (bytes_at 4 8 r.body))
nvme_found r is shape =
    let fits = bytes_from_recursion r.body is.body in
    let long : length r.body ≡ 12 = shape.len-is in
    fixed_found 3 23 12 r shape (λ body len. nvme len) _ _ refl
    (then_field w32 _ wide_32 0 r.body fits (omega arith) (then_array 8 4 r.body (no_field 12 r.body (omega arith))))
    (number_below w32 _ wide_32 0 r.body fits (omega arith), array_bytes 8 4 r.body fits (omega arith)) tt

hard_drive_found : (r : Row) → IsRow r → HasShape 4 1 38 r → IsFound r (HardDrive (hard_drive_at r.body))
hard_drive_found r is shape =
    let fits = bytes_from_recursion r.body is.body in
    let long : length r.body ≡ 38 = shape.len-is in
    fixed_found 4 1 38 r shape (λ body len. hard_drive len) _ (hard_drive_fields (hard_drive_at r.body)) refl
    (then_field w32 _ wide_32 0 r.body fits (omega arith)
    (then_field w64 _ wide_64 4 r.body fits (omega arith) (then_field w64 _ wide_64 12 r.body fits (omega arith) (
    then_array 16 20 r.body (then_field w8 _ wide_8 36 r.body fits (omega arith)
    (then_field w8 _ wide_8 37 r.body fits (omega arith) (no_field 38 r.body (omega arith))))))))
    (record {
      partition = number_below w32 _ wide_32 0 r.body fits (omega arith);
      start = number_below w64 _ wide_64 4 r.body fits (omega arith);
      size = number_below w64 _ wide_64 12 r.body fits (omega arith);
      signature = array_bytes 16 20 r.body fits (omega arith);
      format = number_below w8 _ wide_8 36 r.body fits (omega arith);
      signature_kind = number_below w8 _ wide_8 37 r.body fits (omega arith);
    }) tt

cdrom_found : (r : Row) → IsRow r → HasShape 4 2 20 r → IsFound r (Cdrom (number_at w32 0 r.body) (number_at w64 4 r.body) (number_at w64 12 r.body))
cdrom_found r is shape =
    let fits = bytes_from_recursion r.body is.body in
    let long : length r.body ≡ 20 = shape.len-is in
    fixed_found 4 2 20 r shape (λ body len. cdrom len) _ _ refl
    (then_field w32 _ wide_32 0 r.body fits (omega arith)
    (then_field w64 _ wide_64 4 r.body fits (omega arith)
    (then_field w64 _ wide_64 12 r.body fits (omega arith) (no_field 20 r.body (omega arith))))) (
      number_below w32 _ wide_32 0 r.body fits (omega arith),
      number_below w64 _ wide_64 4 r.body fits (omega arith),
      number_below w64 _ wide_64 12 r.body fits (omega arith),
    ) tt

-- the row has this type and sub-type
type_is : (kind sub : ℕ) (r : Row) → has_type kind sub r ≡ true → row kind sub r.body ≡ r
type_is kind sub r e =
    let parts = and_parts (eqb r.kind kind) (eqb r.sub sub) e in
    ap (λ (k : ℕ). row k sub r.body) (sym (eqb-true _ _ parts.0)) ∙ ap (λ (s : ℕ). row r.kind s r.body) (sym (eqb-true _ _ parts.1))

vendor_found : (V : VendorParts → Node) (kind sub : ℕ) (r : Row) → IsRow r → has_type kind sub r ≡ true →
    ((body : List ℕ) → 16 ≤ length body → IsListed (row kind sub body))
    → ((p : VendorParts) → IsVendor p → IsNode (V p)) →
    ((p : VendorParts) → row_of (V p) ≡ row kind sub (vendor_bytes p)) → ((p : VendorParts) → IsTyped (V p)) →
    IfSome (option_map V (vendor_of r.body)) (IsFound r)
vendor_found V kind sub r is e listed valid rows own =
    cond_both (leb 16 (length r.body)) _ _ (λ (found : Option VendorParts). IfSome (option_map V found) (IsFound r)) (λ enough.
    let long : 16 ≤ length r.body = leb-true 16 (length r.body) enough in
    let fits = bytes_from_recursion r.body is.body in
    let same = type_is kind sub r e in
    let parts = vendor_parts (take 16 r.body) (drop 16 r.body) in
    record {
      listed = subst IsListed same (listed r.body long);
      valid = valid parts (record {
        guid = array_bytes 16 0 r.body fits long;
        body = recursion_from_bytes
            (drop 16 r.body) (IsBytes-drop 16 r.body fits);
        len = omega (arith, length-drop 16 r.body, is.len);
      });
      same = rows parts ∙ ap (λ (b : List ℕ). row kind sub b) (take-append-drop 16 r.body) ∙ same;
      own = own parts;
    }) (λ _. tt)

uri_found : (r : Row) → IsRow r → has_type 3 24 r ≡ true → IsFound r (Uri r.body)
uri_found r is e =
    let same = type_is 3 24 r e in
    record { listed = subst IsListed same uri; valid = (is.body, is.len); same = same; own = tt }

file_of_named : (r : Row) → IsRow r → has_type 4 4 r ≡ true → (found : Option (List ℕ)) →
    IfSome found (IsNamed r.body) → IfSome (option_map (λ units. FilePath units) found) (IsFound r)
file_of_named r is e None named = tt
file_of_named r is e (Some units) named =
    let same = type_is 4 4 r e in
    record {
      listed = subst IsListed same (file_path named.closed);
      valid = (named.valid, omega (arith, named.len, is.len));
      same = ap (λ (b : List ℕ). row 4 4 b) named.same
          ∙ same;
      own = tt;
    }

file_found : (r : Row) → IsRow r → has_type 4 4 r ≡ true → IfSome (option_map (λ units. FilePath units) (name_of r.body)) (IsFound r)
file_found r is e = file_of_named r is e (name_of r.body) (name_found r.body (bytes_from_recursion r.body is.body))

pub fixed_node_found : (r : Row) → IsRow r → IfSome (fixed_node_of r) (IsFound r)
fixed_node_found r is =
    let P : Option Node → Type 0 = λ found. IfSome found (IsFound r) in
    cond_both _ _ _ P (λ e. pci_found r is (shape_is 1 1 2 r e)) (λ _.
    cond_both _ _ _ P (λ e. acpi_found r is (shape_is 2 1 8 r e)) (λ _.
    cond_both _ _ _ P (λ e. usb_found r is (shape_is 3 5 2 r e)) (λ _.
    cond_both _ _ _ P (λ e. mac_found r is (shape_is 3 11 33 r e)) (λ _.
    cond_both _ _ _ P (λ e. ipv4_found r is (shape_is 3 12 23 r e)) (λ _.
    cond_both _ _ _ P (λ e. sata_found r is (shape_is 3 18 6 r e)) (λ _.
    cond_both _ _ _ P (λ e. vlan_found r is (shape_is 3 20 2 r e)) (λ _.
    cond_both _ _ _ P (λ e. nvme_found r is (shape_is 3 23 12 r e)) (λ _.
    cond_both _ _ _ P (λ e. hard_drive_found r is (shape_is 4 1 38 r e)) (λ _.
    cond_both _ _ _ P (λ e. cdrom_found r is (shape_is 4 2 20 r e)) (λ _.
    tt))))))))))

pub list_node_found : (r : Row) → IsRow r → IfSome (list_node_of r) (IsFound r)
list_node_found r is =
    let P : Option Node → Type 0 = λ found. IfSome found (IsFound r) in
    cond_both _ _ _ P (λ e. vendor_found (λ vendor. VendorHw vendor) 1 4 r is e (λ body long. vendor_hw long) (λ p v. v) (λ p. refl) (λ p. tt)) (λ _.
    cond_both _ _ _ P (λ e. vendor_found (λ vendor. VendorMsg vendor) 3 10 r is e (λ body long. vendor_msg long) (λ p v. v) (λ p. refl) (λ p. tt)) (λ _.
    cond_both _ _ _ P (λ e. uri_found r is e) (λ _.
    cond_both _ _ _ P (λ e. vendor_found (λ vendor. VendorMedia vendor) 4 3 r is e (λ body long. vendor_media long) (λ p v. v) (λ p. refl) (λ p. tt)) (λ _.
    cond_both _ _ _ P (λ e. file_found r is e) (λ _.
    tt)))))

either_found : (r : Row) (a b : Option Node) → IfSome a (IsFound r) → IfSome b (IsFound r) → IfSome (option_or a b) (IsFound r)
either_found r (Some node) b first second = first
either_found r None b first second = second

-- what the inverse finds has the row
pub typed_node_found : (r : Row) → IsRow r → IfSome (typed_node_of r) (IsFound r)
typed_node_found r is = either_found r (fixed_node_of r) (list_node_of r) (fixed_node_found r is) (list_node_found r is)

file_some : (found : Option (List ℕ)) → IsSome found → IsSome (option_map (λ (units : List ℕ). FilePath units) found)
file_some None some = some
file_some (Some units) some = refl

-- it finds a node for each listed row
pub typed_node_listed : (r : Row) → IsListed r → IsSome (typed_node_of r)
typed_node_listed _ (pci {body} len) = rw (eq-eqb (length body) 2 len) refl
typed_node_listed _ (vendor_hw {body} long) = rw (le-leb 16 (length body) long) refl
typed_node_listed _ (acpi {body} len) = rw (eq-eqb (length body) 8 len) refl
typed_node_listed _ (usb {body} len) = rw (eq-eqb (length body) 2 len) refl
typed_node_listed _ (vendor_msg {body} long) = rw (le-leb 16 (length body) long) refl
typed_node_listed _ (mac {body} len) = rw (eq-eqb (length body) 33 len) refl
typed_node_listed _ (ipv4 {body} len) = rw (eq-eqb (length body) 23 len) refl
typed_node_listed _ (sata {body} len) = rw (eq-eqb (length body) 6 len) refl
typed_node_listed _ (vlan {body} len) = rw (eq-eqb (length body) 2 len) refl
typed_node_listed _ (nvme {body} len) = rw (eq-eqb (length body) 12 len) refl
typed_node_listed _ (uri {body}) = refl
typed_node_listed _ (hard_drive {body} len) = rw (eq-eqb (length body) 38 len) refl
typed_node_listed _ (cdrom {body} len) = rw (eq-eqb (length body) 20 len) refl
typed_node_listed _ (vendor_media {body} long) = rw (le-leb 16 (length body) long) refl
typed_node_listed _ (file_path {body} closed) = file_some (name_of body) (name_listed body closed)

no_file : (found : Option (List ℕ)) → is_some found ≡ false → option_map (λ units. FilePath units) found ≡ None
no_file None none = refl
no_file (Some name) none = absurd (false≢true (sym none))

pub unlisted_name : (body : List ℕ) → is_some (name_of body) ≡ false → list_node_of (row 4 4 body) ≡ None
unlisted_name body none = no_file (name_of body) none

pub none_listed : (r : Row) → fixed_node_of r ≡ None → list_node_of r ≡ None → ¬ IsListed r
none_listed r fixed list = λ listed.
    let none : typed_node_of r ≡ None = ap (λ (found : Option Node). option_or found (list_node_of r)) fixed ∙ list in
    false≢true (subst (λ (found : Option Node). IsSome found) none (typed_node_listed r listed))

-- the node of a row has the row
from_found : (r : Row) (found : Option Node) → IsRow r → r.kind ≢ 127 → IfSome found (IsFound r) →
    (IsListed r → IsSome found) → IsNode (unwrap_or found (Other r)) × (row_of (unwrap_or found (Other r)) ≡ r)
from_found r (Some node) is inner typed listed = (typed.valid, typed.same)
from_found r None is inner typed listed =
    (record { row = is; no_end = inner; unlisted = λ l. false≢true (listed l) }, refl)

pub node_of_has_row : (r : Row) → IsRow r → r.kind ≢ 127 → IsNode (node_of r) × (row_of (node_of r) ≡ r)
node_of_has_row r is inner = from_found r (typed_node_of r) is inner (typed_node_found r is) (typed_node_listed r)

none_unlisted : (r : Row) (found : Option Node) → IfSome found (IsFound r) → ¬ IsListed r → found ≡ None
none_unlisted r None typed unlisted = refl
none_unlisted r (Some node) typed unlisted = absurd (unlisted typed.listed)

pub other_of_row : (r : Row) → IsOther r → Other r ≡ node_of r
other_of_row r is = ap (λ (found : Option Node). unwrap_or found (Other r)) (sym (none_unlisted r (typed_node_of r) (typed_node_found r is.row) is.unlisted))

-- ---- each node's row is read as the node

pci_again : (body : List ℕ) (function device : ℕ) → IsNode (Pci function device) → FieldsFrom 0 body (to_le_bytes w8 function ∷ to_le_bytes w8 device ∷ [])
    → Pci (number_at w8 0 body) (number_at w8 1 body) ≡ Pci function device
pci_again body function device valid all =
    rw (number_again w8 _ wide_8 0 body valid.0 all, number_again w8 _ wide_8 1 body valid.1 (behind 1 0 body refl all)) refl

acpi_again : (body : List ℕ) (hid uid : ℕ) → IsNode (Acpi hid uid) → FieldsFrom 0 body (to_le_bytes w32 hid ∷ to_le_bytes w32 uid ∷ [])
    → Acpi (number_at w32 0 body) (number_at w32 4 body) ≡ Acpi hid uid
acpi_again body hid uid valid all =
    rw (number_again w32 _ wide_32 0 body valid.0 all, number_again w32 _ wide_32 4 body valid.1 (behind 4 0 body refl all)) refl

usb_again : (body : List ℕ) (port interface : ℕ) → IsNode (Usb port interface) → FieldsFrom 0 body (to_le_bytes w8 port ∷ to_le_bytes w8 interface ∷ [])
    → Usb (number_at w8 0 body) (number_at w8 1 body) ≡ Usb port interface
usb_again body port interface valid all =
    rw (number_again w8 _ wide_8 0 body valid.0 all, number_again w8 _ wide_8 1 body valid.1 (behind 1 0 body refl all)) refl

mac_again : (body address : List ℕ) (if_kind : ℕ) → IsNode (Mac address if_kind) → FieldsFrom 0 body (address ∷ to_le_bytes w8 if_kind ∷ [])
    → Mac (bytes_at 0 32 body) (number_at w8 32 body) ≡ Mac address if_kind
mac_again body address if_kind valid all =
    rw (array_again 32 0 body valid.0.0 all, number_again w8 _ wide_8 32 body valid.1 (behind 32 0 body valid.0.0 all)) refl

ipv4_again : (body : List ℕ) (p : Ipv4Parts) → AreIpv4Parts p → FieldsFrom 0 body (ipv4_fields p) → ipv4_at body ≡ p
ipv4_again body p valid all =
    let at_4 = behind 4 0 body valid.local.0 all in
    let at_8 = behind 4 4 body valid.remote.0 at_4 in
    let at_10 = behind 2 8 body refl at_8 in
    let at_12 = behind 2 10 body refl at_10 in
    let at_14 = behind 2 12 body refl at_12 in
    let at_15 = behind 1 14 body refl at_14 in
    let at_19 = behind 4 15 body valid.gateway.0 at_15 in
    rw (
      array_again 4 0 body valid.local.0 all,
      array_again 4 4 body valid.remote.0 at_4,
      number_again w16 _ wide_16 8 body valid.local_port at_8,
      number_again w16 _ wide_16 10 body valid.remote_port at_10,
      number_again w16 _ wide_16 12 body valid.protocol at_12,
      number_again w8 _ wide_8 14 body valid.fixed at_14,
      array_again 4 15 body valid.gateway.0 at_15,
      array_again 4 19 body valid.mask.0 at_19,
    ) refl

sata_again : (body : List ℕ) (hba multiplier lun : ℕ) → IsNode (Sata hba multiplier lun) →
    FieldsFrom 0 body (to_le_bytes w16 hba ∷ to_le_bytes w16 multiplier ∷ to_le_bytes w16 lun ∷ [])
    → Sata (number_at w16 0 body) (number_at w16 2 body) (number_at w16 4 body) ≡ Sata hba multiplier lun
sata_again body hba multiplier lun valid all =
    let at_2 = behind 2 0 body refl all in
    rw (
      number_again w16 _ wide_16 0 body valid.0 all,
      number_again w16 _ wide_16 2 body valid.1 at_2,
      number_again w16 _ wide_16 4 body valid.2 (behind 2 2 body refl at_2),
    ) refl

vlan_again : (body : List ℕ) (id : ℕ) → IsNode (Vlan id) → FieldsFrom 0 body (to_le_bytes w16 id ∷ []) → Vlan (number_at w16 0 body) ≡ Vlan id
vlan_again body id valid all = rw (number_again w16 _ wide_16 0 body valid all) refl

nvme_again : (body eui : List ℕ) (namespace : ℕ) → IsNode (Nvme namespace eui) → FieldsFrom 0 body (to_le_bytes w32 namespace ∷ eui ∷ [])
    → Nvme (number_at w32 0 body) (bytes_at 4 8 body) ≡ Nvme namespace eui
nvme_again body eui namespace valid all =
    rw (number_again w32 _ wide_32 0 body valid.0 all, array_again 8 4 body valid.1.0 (behind 4 0 body refl all)) refl

hard_drive_again : (body : List ℕ) (p : HardDriveParts) → AreHardDriveParts p → FieldsFrom 0 body (hard_drive_fields p) → hard_drive_at body ≡ p
hard_drive_again body p valid all =
    let at_4 = behind 4 0 body refl all in
    let at_12 = behind 8 4 body refl at_4 in
    let at_20 = behind 8 12 body refl at_12 in
    let at_36 = behind 16 20 body valid.signature.0 at_20 in
    let at_37 = behind 1 36 body refl at_36 in
    rw (
      number_again w32 _ wide_32 0 body valid.partition all,
      number_again w64 _ wide_64 4 body valid.start at_4,
      number_again w64 _ wide_64 12 body valid.size at_12,
      array_again 16 20 body valid.signature.0 at_20,
      number_again w8 _ wide_8 36 body valid.format at_36,
      number_again w8 _ wide_8 37 body valid.signature_kind at_37,
    ) refl

cdrom_again : (body : List ℕ) (entry start size : ℕ) → IsNode (Cdrom entry start size) →
    FieldsFrom 0 body (to_le_bytes w32 entry ∷ to_le_bytes w64 start ∷ to_le_bytes w64 size ∷ [])
    → Cdrom (number_at w32 0 body) (number_at w64 4 body) (number_at w64 12 body) ≡ Cdrom entry start size
cdrom_again body entry start size valid all =
    let at_4 = behind 4 0 body refl all in
    rw (
      number_again w32 _ wide_32 0 body valid.0 all,
      number_again w64 _ wide_64 4 body valid.1 at_4,
      number_again w64 _ wide_64 12 body valid.2 (behind 8 4 body refl at_4),
    ) refl

mac_length : (address : List ℕ) (if_kind : ℕ) → length address ≡ 32 → HasLength (address ∷ to_le_bytes w8 if_kind ∷ []) 33
mac_length address if_kind long = then_length 32 address long (then_length 1 (to_le_bytes w8 if_kind) refl no_length)

ipv4_length : (p : Ipv4Parts) → AreIpv4Parts p → HasLength (ipv4_fields p) 23
ipv4_length p valid =
    then_length 4 p.local valid.local.0 (then_length 4 p.remote valid.remote.0 (
    then_length 2 (to_le_bytes w16 p.local_port) refl (then_length 2 (to_le_bytes w16 p.remote_port) refl (then_length 2 (to_le_bytes w16 p.protocol) refl (
    then_length 1 (to_le_bytes w8 p.fixed) refl (then_length 4 p.gateway valid.gateway.0 (then_length 4 p.mask valid.mask.0 no_length)))))))

nvme_length : (namespace : ℕ) (eui : List ℕ) → length eui ≡ 8 → HasLength (to_le_bytes w32 namespace ∷ eui ∷ []) 12
nvme_length namespace eui long = then_length 4 (to_le_bytes w32 namespace) refl (then_length 8 eui long no_length)

hard_drive_length : (p : HardDriveParts) → AreHardDriveParts p → HasLength (hard_drive_fields p) 38
hard_drive_length p valid =
    then_length 4 (to_le_bytes w32 p.partition) refl (then_length 8 (to_le_bytes w64 p.start) refl (then_length 8 (to_le_bytes w64 p.size) refl (
    then_length 16 p.signature valid.signature.0
    (then_length 1 (to_le_bytes w8 p.format) refl (then_length 1 (to_le_bytes w8 p.signature_kind) refl no_length)))))

vendor_long : (p : VendorParts) → IsVendor p → 16 ≤ length (vendor_bytes p)
vendor_long p valid = omega (arith, valid.guid.0, length-append p.guid p.body)

vendor_again : (p : VendorParts) → IsVendor p → vendor_of (vendor_bytes p) ≡ Some p
vendor_again p valid = rw (
  le-leb 16 (length (vendor_bytes p)) (vendor_long p valid),
  take_at p.guid p.body 16 valid.guid.0,
  drop_at p.guid p.body 16 valid.guid.0,
) refl

vendor_row : (kind sub : ℕ) (p : VendorParts) → IsVendor p → kind < 256 → sub < 256 → IsRow (row kind sub (vendor_bytes p))
vendor_row kind sub p valid k s =
    record {
      kind = k;
      sub = s;
      body = AllByRecursion-append IsByte p.guid p.body valid.guid.1 valid.body;
      len = omega (arith, valid.guid.0, valid.len, length-append p.guid p.body);
    }

-- a row of the right length is read as a node with a case of its own
as_typed : (r : Row) (node : Node) → typed_node_of r ≡ Some node → node_of r ≡ node
as_typed r node e = ap (λ (found : Option Node). unwrap_or found (Other r)) e

-- the node of a node's row is the node
pub node_of-row_of : (node : Node) → IsNode node → node_of (row_of node) ≡ node
node_of-row_of (Pci function device) valid = pci_again (row_of (Pci function device)).body function device valid (record { are = refl })
node_of-row_of (VendorHw p) valid =
    ap (λ (found : Option VendorParts). unwrap_or (option_map (λ (q : VendorParts). VendorHw q) found)
    (Other (row 1 4 (vendor_bytes p)))) (vendor_again p valid)
node_of-row_of (Acpi hid uid) valid = acpi_again (row_of (Acpi hid uid)).body hid uid valid (record { are = refl })
node_of-row_of (Usb port interface) valid = usb_again (row_of (Usb port interface)).body port interface valid (record { are = refl })
node_of-row_of (VendorMsg p) valid =
    ap (λ (found : Option VendorParts). unwrap_or (option_map (λ (q : VendorParts). VendorMsg q) found)
    (Other (row 3 10 (vendor_bytes p)))) (vendor_again p valid)
node_of-row_of (Mac address if_kind) valid =
    let body = (row_of (Mac address if_kind)).body in
    as_typed (row 3 11 body) (Mac (bytes_at 0 32 body) (number_at w8 32 body)) (rw (eq-eqb (length body) 33 (mac_length address if_kind valid.0.0).is) refl)
    ∙ mac_again body address if_kind valid (record { are = refl })
node_of-row_of (Ipv4 parts) valid =
    let body = (row_of (Ipv4 parts)).body in
    as_typed (row 3 12 body) (Ipv4 (ipv4_at body)) (rw (eq-eqb (length body) 23 (ipv4_length parts valid).is) refl)
    ∙ ap (λ (p : Ipv4Parts). Ipv4 p) (ipv4_again body parts valid (record { are = refl }))
node_of-row_of (Sata hba multiplier lun) valid = sata_again (row_of (Sata hba multiplier lun)).body hba multiplier lun valid (record { are = refl })
node_of-row_of (Vlan id) valid = vlan_again (row_of (Vlan id)).body id valid (record { are = refl })
node_of-row_of (Nvme namespace eui) valid =
    let body = (row_of (Nvme namespace eui)).body in
    as_typed (row 3 23 body) (Nvme (number_at w32 0 body) (bytes_at 4 8 body)) (rw (eq-eqb (length body) 12 (nvme_length namespace eui valid.1.0).is) refl)
    ∙ nvme_again body eui namespace valid (record { are = refl })
node_of-row_of (Uri bytes) valid = refl
node_of-row_of (HardDrive parts) valid =
    let body = (row_of (HardDrive parts)).body in
    as_typed (row 4 1 body) (HardDrive (hard_drive_at body)) (rw (eq-eqb (length body) 38 (hard_drive_length parts valid).is) refl)
    ∙ ap (λ (p : HardDriveParts). HardDrive p) (hard_drive_again body parts valid (record { are = refl }))
node_of-row_of (Cdrom entry start size) valid = cdrom_again (row_of (Cdrom entry start size)).body entry start size valid (record { are = refl })
node_of-row_of (VendorMedia p) valid =
    ap (λ (found : Option VendorParts). unwrap_or (option_map (λ (q : VendorParts). VendorMedia q) found)
    (Other (row 4 3 (vendor_bytes p)))) (vendor_again p valid)
node_of-row_of (FilePath units) valid =
    ap (λ (found : Option (List ℕ)). unwrap_or (option_map (λ (name : List ℕ). FilePath name) found)
    (Other (row 4 4 (name_bytes units)))) (name_again units valid.0)
node_of-row_of (Other other) valid =
    ap (λ (found : Option Node). unwrap_or found (Other other)) (none_unlisted other (typed_node_of other) (typed_node_found other valid.row) valid.unlisted)

-- nodes of one row are one
pub same_node : (m n : Node) → IsNode m → IsNode n → row_of m ≡ row_of n → m ≡ n
same_node m n valid-m valid-n e = sym (node_of-row_of m valid-m) ∙ ap node_of e ∙ node_of-row_of n valid-n

-- the row of a node is no longer than a row can be, its numbers are bytes, and it isn't an end
pub row_of_is_row : (node : Node) → IsNode node → IsRow (row_of node) × ((row_of node).kind ≢ 127)
row_of_is_row (Pci function device) valid =
    let fields = then_bytes w8 _ wide_8 function (then_bytes w8 _ wide_8 device no_bytes) in
    (record { kind = omega arith; sub = omega arith; body = fields.bytes; len = omega arith }, omega arith)
row_of_is_row (VendorHw p) valid = (vendor_row 1 4 p valid (omega arith) (omega arith), omega arith)
row_of_is_row (Acpi hid uid) valid =
    let fields = then_bytes w32 _ wide_32 hid (then_bytes w32 _ wide_32 uid no_bytes) in
    (record { kind = omega arith; sub = omega arith; body = fields.bytes; len = omega arith }, omega arith)
row_of_is_row (Usb port interface) valid =
    let fields = then_bytes w8 _ wide_8 port (then_bytes w8 _ wide_8 interface no_bytes) in
    (record { kind = omega arith; sub = omega arith; body = fields.bytes; len = omega arith }, omega arith)
row_of_is_row (VendorMsg p) valid = (vendor_row 3 10 p valid (omega arith) (omega arith), omega arith)
row_of_is_row (Mac address if_kind) valid =
    let fields = then_octets 32 address valid.0 (then_bytes w8 _ wide_8 if_kind no_bytes) in
    (record { kind = omega arith; sub = omega arith; body = fields.bytes; len = omega (arith, (mac_length address if_kind valid.0.0).is) }, omega arith)
row_of_is_row (Ipv4 p) valid =
    let fields = then_octets 4 p.local valid.local (then_octets 4 p.remote valid.remote (
    then_bytes w16 _ wide_16 p.local_port (then_bytes w16 _ wide_16 p.remote_port (then_bytes w16 _ wide_16 p.protocol (
    then_bytes w8 _ wide_8 p.fixed (then_octets 4 p.gateway valid.gateway (then_octets 4 p.mask valid.mask no_bytes))))))) in
    (record { kind = omega arith; sub = omega arith; body = fields.bytes; len = omega (arith, (ipv4_length p valid).is) }, omega arith)
row_of_is_row (Sata hba multiplier lun) valid =
    let fields = then_bytes w16 _ wide_16 hba (then_bytes w16 _ wide_16 multiplier (then_bytes w16 _ wide_16 lun no_bytes)) in
    (record { kind = omega arith; sub = omega arith; body = fields.bytes; len = omega arith }, omega arith)
row_of_is_row (Vlan id) valid =
    let fields = then_bytes w16 _ wide_16 id no_bytes in
    (record { kind = omega arith; sub = omega arith; body = fields.bytes; len = omega arith }, omega arith)
row_of_is_row (Nvme namespace eui) valid =
    let fields = then_bytes w32 _ wide_32 namespace (then_octets 8 eui valid.1 no_bytes) in
    (record { kind = omega arith; sub = omega arith; body = fields.bytes; len = omega (arith, (nvme_length namespace eui valid.1.0).is) }, omega arith)
row_of_is_row (Uri bytes) valid = (record { kind = omega arith; sub = omega arith; body = valid.0; len = valid.1 }, omega arith)
row_of_is_row (HardDrive p) valid =
    let fields = then_bytes w32 _ wide_32 p.partition (then_bytes w64 _ wide_64 p.start (then_bytes w64 _ wide_64 p.size (
    then_octets 16 p.signature valid.signature (then_bytes w8 _ wide_8 p.format (then_bytes w8 _ wide_8 p.signature_kind no_bytes))))) in
    (record { kind = omega arith; sub = omega arith; body = fields.bytes; len = omega (arith, (hard_drive_length p valid).is) }, omega arith)
row_of_is_row (Cdrom entry start size) valid =
    let fields = then_bytes w32 _ wide_32 entry (then_bytes w64 _ wide_64 start (then_bytes w64 _ wide_64 size no_bytes)) in
    (record { kind = omega arith; sub = omega arith; body = fields.bytes; len = omega arith }, omega arith)
row_of_is_row (VendorMedia p) valid = (vendor_row 4 3 p valid (omega arith) (omega arith), omega arith)
row_of_is_row (FilePath units) valid = (
  record {
    kind = omega arith;
    sub = omega arith;
    body = name_of_bytes units;
    len = omega (arith, valid.1, name_length units);
  },
  omega arith,
)
row_of_is_row (Other other) valid = (valid.row, valid.no_end)

-- ---- the listed rows

-- what the inverse finds has a case of its own
-- such a node shows that its row is listed
pub found_is_listed : (r : Row) (found : Option Node) → IfSome found (IsFound r) → IsSome found → IsListed r
found_is_listed r None is some = absurd (false≢true some)
found_is_listed r (Some node) is some = is.listed

-- if none of one length is found, one that holds a list is
pub or_else : (a b : Option Node) → IsSome (option_or a b) → ¬ IsSome a → IsSome b
or_else None b some none = some
or_else (Some node) b some none = absurd (none refl)

found_typed : (r : Row) (found : Option Node) → IfSome found (IsFound r) → IsSome found → HasTypedNode r
found_typed r None typed some = absurd (false≢true some)
found_typed r (Some node) typed some = (node, typed.valid, typed.same, typed.own)

pub typed_from_listed : (r : Row) → IsRow r → IsListed r → HasTypedNode r
typed_from_listed r is listed = found_typed r (typed_node_of r) (typed_node_found r is) (typed_node_listed r listed)

pub listed_from_typed : (r : Row) (node : Node) → IsNode node → row_of node ≡ r → IsTyped node → IsListed r
listed_from_typed r (Pci function device) valid same own = subst IsListed same (pci refl)
listed_from_typed r (VendorHw p) valid same own = subst IsListed same (vendor_hw (vendor_long p valid))
listed_from_typed r (Acpi hid uid) valid same own = subst IsListed same (acpi refl)
listed_from_typed r (Usb port interface) valid same own = subst IsListed same (usb refl)
listed_from_typed r (VendorMsg p) valid same own = subst IsListed same (vendor_msg (vendor_long p valid))
listed_from_typed r (Mac address if_kind) valid same own = subst IsListed same (mac (mac_length address if_kind valid.0.0).is)
listed_from_typed r (Ipv4 parts) valid same own = subst IsListed same (ipv4 (ipv4_length parts valid).is)
listed_from_typed r (Sata hba multiplier lun) valid same own = subst IsListed same (sata refl)
listed_from_typed r (Vlan id) valid same own = subst IsListed same (vlan refl)
listed_from_typed r (Nvme namespace eui) valid same own = subst IsListed same (nvme (nvme_length namespace eui valid.1.0).is)
listed_from_typed r (Uri bytes) valid same own = subst IsListed same uri
listed_from_typed r (HardDrive parts) valid same own = subst IsListed same (hard_drive (hard_drive_length parts valid).is)
listed_from_typed r (Cdrom entry start size) valid same own = subst IsListed same (cdrom refl)
listed_from_typed r (VendorMedia p) valid same own = subst IsListed same (vendor_media (vendor_long p valid))
listed_from_typed r (FilePath units) valid same own = subst IsListed same (file_path (name_closed units valid.0))
listed_from_typed r (Other other) valid same own = absurd own
