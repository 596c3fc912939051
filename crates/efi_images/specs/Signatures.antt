-- Signature lists (UEFI 2.10, 32.4.1), as db, dbx and KEK hold them. Numbers are little-endian.
use Rattle.std.specs.Prelude.{◌≡◌, ℕ, ◌+◌, ◌-◌, ◌%◌, ◌<◌, ◌==◌, ◌||◌, not, nat_lt, List, [], ◌∷◌, length, Result, Ok, Err, if◌then◌else◌}
use Rattle.efi_images.specs.Bytes.{u32_at}
use Rattle.efi_images.specs.Digest.{part}
use Rattle.efi_images.specs.declared.signatures.SignatureList.{SignatureList}
use Rattle.efi_images.specs.declared.signatures.ListFault.{ListFault}
use Rattle.efi_images.specs.declared.signatures.ListFault.TheVariants as fault

-- Where a list begins and how many bytes it has, the GUID of its type, its header, how many bytes each signature has, and
-- the bytes of all.
pub record ListParts : Type 0 where
  pub place : ℕ
  pub len : ℕ
  pub kind : List ℕ
  pub header : List ℕ
  pub signature_len : ℕ
  pub signatures : List ℕ

abbrev pub list_parts : SignatureList → ListParts
list_parts l = record
    { place = l.place; len = l.len; kind = l.kind.now; header = l.header.now; signature_len = l.signature_len; signatures = l.signatures.now }

-- SignatureListSize, SignatureHeaderSize and SignatureSize of the list at this offset
abbrev pub list_len : List ℕ → ℕ → ℕ
list_len bytes place = u32_at bytes (place + 16)

abbrev pub header_len : List ℕ → ℕ → ℕ
header_len bytes place = u32_at bytes (place + 20)

abbrev pub signature_len : List ℕ → ℕ → ℕ
signature_len bytes place = u32_at bytes (place + 24)

-- how many bytes its signatures have
abbrev pub signatures_len : List ℕ → ℕ → ℕ
signatures_len bytes place = list_len bytes place - (28 + header_len bytes place)

-- the list at this offset, or what is wrong with it: the bytes end in its first 28; it has fewer bytes than its headers, or
-- more than there are; or a signature has no room for its owner, or the signatures aren't whole
unfoldable pub list_at : List ℕ → ℕ → Result ListParts ListFault
list_at bytes place =
    if nat_lt (length bytes) (place + 28) then Err (fault.CutHeader place)
    else (if nat_lt (list_len bytes place) (28 + header_len bytes place) || nat_lt (length bytes) (place + list_len bytes place)
    then Err (fault.BadListSize place (list_len bytes place))
    else (if nat_lt (signature_len bytes place) 16 || not (signatures_len bytes place % signature_len bytes place == 0)
    then Err (fault.BadSignatureSize place (signature_len bytes place))
    else Ok (record {
      place = place;
      len = list_len bytes place;
      kind = part bytes place 16;
      header = part bytes (place + 28) (header_len bytes place);
      signature_len = signature_len bytes place;
      signatures = part bytes (place + (28 + header_len bytes place)) (signatures_len bytes place);
    })))

-- from this offset on the bytes are these lists, one right after the other
pub data HasLists (bytes : List ℕ) : ℕ → List ListParts → Type 0 where
  at_end : HasLists bytes (length bytes) []
  one_more : {place : ℕ} {first : ListParts} {others : List ListParts} → place < length bytes → list_at bytes place ≡ Ok first
      → HasLists bytes (place + first.len) others → HasLists bytes place (first ∷ others)

-- from this offset on there are such lists, and then one with this fault
pub data HasListFault (bytes : List ℕ) : ℕ → ListFault → Type 0 where
  here : {place : ℕ} {f : ListFault} → place < length bytes → list_at bytes place ≡ Err f → HasListFault bytes place f
  behind : {place : ℕ} {first : ListParts} {f : ListFault} → place < length bytes → list_at bytes place ≡ Ok first
      → HasListFault bytes (place + first.len) f → HasListFault bytes place f
