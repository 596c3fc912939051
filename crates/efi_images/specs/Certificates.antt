-- The attribute certificate table of an image (UEFI 2.10, 32.2.4), as firmware goes through it for signatures.
-- Numbers are little-endian.
use Rattle.std.specs.Prelude.{ℕ, ◌+◌, ◌-◌, ◌*◌, ◌/◌, ◌<◌, ◌==◌, ◌&&◌, ◌||◌, Bool, bit_and, nat_le, nat_lt, IsTrue, IsFalse, List, [], ◌∷◌, length, Result, Ok, Err, if◌then◌else◌}
use Rattle.std.specs.Cmp.Lexicographic.{pointwise}
use Rattle.efi_images.specs.Bytes.{u16_at, u32_at}
use Rattle.efi_images.specs.Headers.{directory_start}
use Rattle.efi_images.specs.Digest.{part, certificates_size}
use Rattle.efi_images.specs.declared.certificates.Signing.{Signing}
use Rattle.efi_images.specs.declared.certificates.Signing.TheVariants as signing

-- the table's bytes: directory 4 tells where it is in the file
unfoldable pub certificate_table : List ℕ → List ℕ
certificate_table file = part file (directory_start file 4) (certificates_size file)

-- ---- a certificate

-- dwLength: how many bytes the certificate at this offset of the table has
abbrev pub certificate_len : List ℕ → ℕ → ℕ
certificate_len table place = u32_at table place

-- wCertificateType
abbrev pub certificate_type : List ℕ → ℕ → ℕ
certificate_type table place = u16_at table (place + 6)

-- WIN_CERT_TYPE_EFI_GUID: a GUID after the first 8 bytes tells the form of what comes after it
abbrev pub has_guid : List ℕ → ℕ → Bool
has_guid table place = certificate_type table place == 0xEF1

-- how many bytes the certificate has up to the next one, which begins at a multiple of 8
abbrev pub padded_len : List ℕ → ℕ → ℕ
padded_len table place = ((certificate_len table place + 7) / 8) * 8

-- it has bytes after its headers, and it and those up to the next one are in the table
unfoldable pub is_whole : List ℕ → ℕ → Bool
is_whole table place =
    nat_lt (place + 8) (length table)
    && (nat_lt (if has_guid table place then 24 else 8) (certificate_len table place)
    && nat_le (place + padded_len table place) (length table))

-- ---- a signature

-- EFI_CERT_TYPE_PKCS7_GUID, as it is stored
abbrev pub pkcs7_guid : List ℕ
pkcs7_guid =
    0x9D ∷ 0xD2 ∷ 0xAF ∷ 0x4A ∷ 0xDF ∷ 0x68 ∷ 0xEE ∷ 0x49 ∷ 0x8A ∷ 0xA9 ∷ 0x34 ∷ 0x7D ∷ 0x37 ∷ 0x56 ∷ 0x65 ∷ 0xA7 ∷ []

-- the signature in the certificate, SignedData of PKCS #7: none if it is of another form
unfoldable pub signature_bytes : List ℕ → ℕ → List ℕ
signature_bytes table place =
    if certificate_type table place == 2 then part table (place + 8) (certificate_len table place - 8)
    else (if has_guid table place && pointwise ◌==◌ (part table (place + 8) 16) pkcs7_guid
    then part table (place + 24) (certificate_len table place - 24)
    else [])

-- object identifiers of hashes, as ASN.1 stores them
abbrev pub sha1_identifier : List ℕ
sha1_identifier = 0x2B ∷ 0x0E ∷ 0x03 ∷ 0x02 ∷ 0x1A ∷ []

abbrev pub sha2_identifier : ℕ → List ℕ
sha2_identifier last = 0x60 ∷ 0x86 ∷ 0x48 ∷ 0x01 ∷ 0x65 ∷ 0x03 ∷ 0x04 ∷ 0x02 ∷ last ∷ []

-- Firmware looks for the identifier of the hash at byte 32 alone, where it is if the lengths before it have two bytes each,
-- and of the first of these lengths only at two bits.
unfoldable pub is_of_hash : List ℕ → List ℕ → Bool
is_of_hash signature identifier =
    nat_le (32 + length identifier) (length signature)
    && (bit_and (u16_at signature 0) 0x8200 == 0x8200 && pointwise ◌==◌ (part signature 32 (length identifier)) identifier)

abbrev pub is_of_sha256 : List ℕ → Bool
is_of_sha256 signature = is_of_hash signature (sha2_identifier 1)

-- SHA-1, SHA-384 and SHA-512
abbrev pub is_of_other : List ℕ → Bool
is_of_other signature =
    is_of_hash signature sha1_identifier || (is_of_hash signature (sha2_identifier 2) || is_of_hash signature (sha2_identifier 3))

-- what a signature says of an image
unfoldable pub signing_of : List ℕ → Signing
signing_of signature =
    if is_of_sha256 signature then signing.Sha256 else (if is_of_other signature then signing.Other else signing.Unknown)

-- what two of them say: that of SHA-256 comes first, then that of another hash
abbrev pub joined : Signing → Signing → Signing
joined signing.Sha256 _ = signing.Sha256
joined _ signing.Sha256 = signing.Sha256
joined signing.Other _ = signing.Other
joined _ signing.Other = signing.Other
joined _ _ = signing.Unknown

-- ---- all of them

-- what the certificates from this offset of the table on say together with those before it, or where one isn't whole
pub data IsSigned (table : List ℕ) : Signing → ℕ → Result Signing ℕ → Type 0 where
  at_end : {before : Signing} → IsSigned table before (length table) (Ok before)
  one_more : {before : Signing} {place : ℕ} {answer : Result Signing ℕ} → place < length table → IsTrue (is_whole table place)
      → IsSigned table (joined before (signing_of (signature_bytes table place))) (place + padded_len table place) answer
      → IsSigned table before place answer
  broken : {before : Signing} {place : ℕ} → place < length table → IsFalse (is_whole table place) → IsSigned table before place (Err place)
