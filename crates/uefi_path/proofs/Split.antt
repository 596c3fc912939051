-- A row cut off the start of some bytes.
use Rattle.std.proofs.Common.{
  ◌≡◌,
  ◌≢◌,
  ◌⊎◌,
  ℕ,
  zero,
  suc,
  ◌+◌,
  ◌-◌,
  ◌<◌,
  ◌≤◌,
  List,
  [],
  ◌∷◌,
  ◌++◌,
  length,
  get_or,
  take,
  drop,
  refl,
  sym,
  ap,
  subst,
  ◌∙◌,
  inl,
  inr,
  arith,
}
use Rattle.std.specs.Int.{w16, to_le_bytes, from_le_bytes}
use Rattle.std.specs.List.{AllByRecursion}
use Rattle.std.proofs.lemmas.List.{take-append-drop, length-take, length-drop, drop-drop, drop-take, take_all, nil_from_length}
use Rattle.std.proofs.lemmas.Bool.{cases_eq}
use Rattle.std.proofs.lemmas.Nat.{le_bytes_2}
use Rattle.uefi_path.specs.Row.{row, IsByte, header_bytes, row_bytes, end_instance, end_entire}
use Rattle.uefi_path.specs.declared.fault.PathFault.{PathFault}
use Rattle.uefi_path.specs.declared.fault.PathFault.TheVariants.{NoEnd, ShortHeader, BadLength, PastEnd, BadEnd, OutOfMemory}
use Rattle.uefi_path.specs.Fault.{HasHeader, IsEnd, IsFaultAt}
use Rattle.uefi_path.specs.Reader.{IsHeader, IsHeaderFault, SplitsRow}
use Rattle.uefi_path.proofs.Bytes.{IsBytes, recursion_from_bytes, AllByRecursion-first}

two_bytes : (low high : ℕ) → low < 256 → high < 256 → IsBytes (low ∷ high ∷ [])
two_bytes low high p q zero = p
two_bytes low high p q (suc zero) = q
two_bytes low high p q (suc (suc i)) = omega arith

-- four bytes are a header
pub header_of_bytes : (bytes : List ℕ) (len : ℕ) → 4 ≤ length bytes → IsBytes bytes →
    len ≡ from_le_bytes w16 (get_or bytes 2 0 ∷ get_or bytes 3 0 ∷ []) → HasHeader bytes (get_or bytes 0 0) (get_or bytes 1 0) len
header_of_bytes [] len long fits is = absurd (omega arith)
header_of_bytes (a ∷ []) len long fits is = absurd (omega arith)
header_of_bytes (a ∷ b ∷ []) len long fits is = absurd (omega arith)
header_of_bytes (a ∷ b ∷ c ∷ []) len long fits is = absurd (omega arith)
header_of_bytes (a ∷ b ∷ c ∷ d ∷ rest) len long fits is =
    let spelled : to_le_bytes w16 len ≡ c ∷ d ∷ [] = le_bytes_2 (c ∷ d ∷ []) len refl (two_bytes c d (fits 2) (fits 3)) is in
    record {
      behind = rest;
      two_bytes = rw is (omega (arith, fits 2, fits 3));
      is = ap (λ (t : List ℕ). (a ∷ b ∷ t) ++ rest) (sym spelled);
    }

-- the bytes of a header's row are the start of the bytes
parts_of_header : (bytes : List ℕ) (kind sub len : ℕ) (body : List ℕ) → HasHeader bytes kind sub len → 4 ≤ len →
    len ≤ length bytes → body ≡ take (len - 4) (drop 4 bytes) →
    (bytes ≡ row_bytes (row kind sub body) ++ drop len bytes) × (4 + length body ≡ len)
parts_of_header bytes kind sub len body header least within body-is =
    let spelled : bytes ≡ header_bytes kind sub len ++ header.behind = header.is in
    let behind : drop 4 bytes ≡ header.behind = ap (drop 4) spelled in
    let cut : body ++ drop (len - 4) (drop 4 bytes) ≡ drop 4 bytes = rw body-is (take-append-drop (len - 4) (drop 4 bytes)) in
    let rest : drop (len - 4) (drop 4 bytes) ≡ drop len bytes = drop-drop (len - 4) 4 bytes ∙ ap (λ (k : ℕ). drop k bytes) (omega arith) in
    let size : 4 + length body ≡ len = rw body-is (omega (arith, length-take (len - 4) (drop 4 bytes), length-drop 4 bytes)) in
    let whole : bytes ≡ header_bytes kind sub len ++ (body ++ drop len bytes) = spelled
    ∙ ap (λ (t : List ℕ). header_bytes kind sub len ++ t) (sym behind ∙ sym cut ∙ ap (λ (t : List ℕ). body ++ t) rest) in
    (whole ∙ ap (λ (n : ℕ). header_bytes kind sub n ++ (body ++ drop len bytes)) (sym size), size)

-- which rows there are of a type, if the end nodes alone have type 0x7F
ends_of : (kind sub : ℕ) (body : List ℕ) (len : ℕ) → 4 + length body ≡ len → (kind ≡ 127 → IsEnd sub len) →
    (kind ≢ 127) ⊎ ((row kind sub body ≡ end_instance) ⊎ (row kind sub body ≡ end_entire))
ends_of kind sub body len size ends =
    elim (cases_eq kind 127) [
      | inl same ↦
          let end = ends same in
          let empty : body ≡ [] = nil_from_length body (omega (arith, end.1)) in
          elim end.0 [ inl one ↦ inr (inl (cc)) | inr all ↦ inr (inr (cc)) ]
      | inr other ↦ inl other
    ]

-- the data of the node whose bytes are the start of some bytes
pub data_of_front : (bytes node : List ℕ) (len : ℕ) → 4 ≤ len → len ≤ length bytes → node ≡ take len bytes →
    take (length node - 4) (drop 4 node) ≡ take (len - 4) (drop 4 bytes)
data_of_front bytes node len least within is =
    let size : length node ≡ len = rw is (omega (arith, length-take len bytes)) in
    let cut : drop 4 node ≡ take (len - 4) (drop 4 bytes) = ap (drop 4) (is ∙ ap (λ (n : ℕ). take n bytes) (omega arith)) ∙ drop-take 4 (len - 4) bytes in
    rw (size, cut) (take_all (len - 4) (take (len - 4) (drop 4 bytes)) (omega (arith, length-take (len - 4) (drop 4 bytes))))

pub splits_row : (bytes : List ℕ) (kind sub len : ℕ) (node rest : List ℕ) → IsBytes bytes → kind < 256 → sub < 256 →
    HasHeader bytes kind sub len → IsHeader kind sub len (length bytes)
    → node ≡ take len bytes → rest ≡ drop len bytes → SplitsRow bytes (row kind sub (take (length node - 4) (drop 4 node))) rest
splits_row bytes kind sub len node rest fits kind-fits sub-fits header is front back =
    let body = take (length node - 4) (drop 4 node) in
    let parts = parts_of_header bytes kind sub len body header is.least is.within (data_of_front bytes node len is.least is.within front) in
    let all : AllByRecursion IsByte (row_bytes (row kind sub body) ++ drop len bytes) =
    subst (AllByRecursion IsByte) parts.0 (recursion_from_bytes bytes fits) in
    let data-fits : AllByRecursion IsByte body = AllByRecursion-first IsByte body (drop len bytes) all.1.1.1.1 in
    record {
      parts = rw back parts.0;
      row = record { kind = kind-fits; sub = sub-fits; body = data-fits; len = omega (arith, header.two_bytes, parts.1) };
      ends = ends_of kind sub body len parts.1 is.ends;
    }

-- the fault of a header is the fault of the bytes that begin with it
pub fault_of_header : (fault : PathFault) (bytes : List ℕ) (kind sub len offset : ℕ) → HasHeader bytes kind sub len →
    IsHeaderFault fault kind sub len (length bytes) offset → IsFaultAt fault offset bytes
fault_of_header (NoEnd at) bytes kind sub len offset header h = absurd h
fault_of_header (ShortHeader at left) bytes kind sub len offset header h = absurd h
fault_of_header (BadLength at) bytes kind sub len offset header (at-is, below) = (at-is, len, (kind, sub, header), below)
fault_of_header (PastEnd at stated left) bytes kind sub len offset header (at-is, stated-is, left-is, least, past) = (
  at-is,
  left-is,
  (kind, sub, subst (λ (n : ℕ). HasHeader bytes kind sub n) (sym stated-is) header),
  subst (λ (n : ℕ). 4 ≤ n) (sym stated-is) least,
  subst (λ (n : ℕ). length bytes < n) (sym stated-is) past,
)
fault_of_header (BadEnd at) bytes kind sub len offset header (at-is, kind-is, least, within, no_end) =
    (at-is, sub, len, rw kind-is at header, least, within, no_end)
fault_of_header OutOfMemory bytes kind sub len offset header h = absurd h
