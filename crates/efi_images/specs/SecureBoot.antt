-- What Secure Boot answers to an image (UEFI 2.10, 32.5.3.3), as far as it is told without the check of a signature.
use Rattle.std.specs.Prelude.{◌≡◌, ◌≢◌, ℕ, zero, suc, ◌+◌, ◌/◌, ◌==◌, ◌&&◌, ◌||◌, Bool, false, not, IsTrue, IsFalse, List, [], ◌∷◌, length, Option, Some, None, Result, Ok, Err, if◌then◌else◌}
use Rattle.std.specs.Cmp.Lexicographic.{pointwise}
use Rattle.std.specs.List.{list_any}
use Rattle.efi_images.specs.Headers.{directory_start}
use Rattle.efi_images.specs.Digest.{part, digest_fault, IsDigest}
use Rattle.efi_images.specs.Signatures.{ListParts, HasLists, HasListFault}
use Rattle.efi_images.specs.Certificates.{certificate_table, IsSigned}
use Rattle.efi_images.specs.X509.{CertificateParts}
use Rattle.efi_images.specs.Signers.{all_signers}
use Rattle.efi_images.specs.Leads.{is_of_certificates, lists_lead}
use Rattle.efi_images.specs.declared.leads.Lead.{Lead}
use Rattle.efi_images.specs.declared.leads.Lead.TheVariants as lead
use Rattle.efi_images.specs.declared.certificates.Signing.{Signing}
use Rattle.efi_images.specs.declared.certificates.Signing.TheVariants as signing
use Rattle.efi_images.specs.declared.signatures.ListFault.{ListFault}
use Rattle.efi_images.specs.declared.digest_fault.DigestFault.{DigestFault}
use Rattle.efi_images.specs.declared.digest_fault.DigestFault.TheVariants as undigested
use Rattle.efi_images.specs.declared.answer.SecureBootAnswer.{SecureBootAnswer}
use Rattle.efi_images.specs.declared.answer.SecureBootAnswer.TheVariants as answer
use Rattle.efi_images.specs.declared.answer.Verdict.{Verdict}
use Rattle.efi_images.specs.declared.answer.Verdict.TheVariants as verdict

-- ---- the lists of db and dbx

-- EFI_CERT_SHA256_GUID, as it is stored
abbrev pub sha256_guid : List ℕ
sha256_guid =
    0x26 ∷ 0x16 ∷ 0xC4 ∷ 0xC1 ∷ 0x4C ∷ 0x50 ∷ 0x92 ∷ 0x40 ∷ 0xAC ∷ 0xA9 ∷ 0x41 ∷ 0xF9 ∷ 0x36 ∷ 0x93 ∷ 0x43 ∷ 0x28 ∷ []

-- the list is one of digests by SHA-256
abbrev pub is_of_digests : ListParts → Bool
is_of_digests l = pointwise ◌==◌ l.kind sha256_guid

-- one of so many signatures of 48 bytes from this offset on, each of 16 for its owner and of a digest, is of this digest
abbrev pub is_among : List ℕ → List ℕ → ℕ → ℕ → Bool
is_among digest signatures place zero = false
is_among digest signatures place (suc count) =
    pointwise ◌==◌ (part signatures (place + 16) 32) digest || is_among digest signatures (place + 48) count

-- the list has this digest
unfoldable pub has_digest : List ℕ → ListParts → Bool
has_digest digest l =
    is_of_digests l && (l.signature_len == 48 && is_among digest l.signatures 0 (length l.signatures / 48))

-- the list has digests with which one is compared
unfoldable pub has_digests : ListParts → Bool
has_digests l = is_of_digests l && (l.signature_len == 48 && not (length l.signatures == 0))

-- the list has signatures, and they are neither digests by SHA-256 nor certificates: digests by another hash, say
unfoldable pub has_others : ListParts → Bool
has_others l = not (is_of_digests l) && (not (is_of_certificates l) && not (length l.signatures == 0))

-- the list has certificates
unfoldable pub has_certificates : ListParts → Bool
has_certificates l = is_of_certificates l && not (length l.signatures == 0)

-- ---- what they say of an image

-- An image that is signed by another hash alone is looked for in dbx by that hash.
unfoldable pub is_in_dbx : List ℕ → Signing → List ListParts → Bool
is_in_dbx digest signing.Other dbx = false
is_in_dbx digest _ dbx = list_any (has_digest digest) dbx

-- what is said of an image whose signatures may lead there
abbrev pub lead_answer : Lead → SecureBootAnswer
lead_answer lead.Nowhere = answer.NotInDb
lead_answer (lead.Denied list entry) = answer.SignerInDbx list entry
lead_answer lead.Unread = answer.Signed
lead_answer (lead.Certificate list entry) = answer.SignedBy list entry

-- what the lists of dbx and db say of an image whose signatures have these certificates with them, if these are read
unfoldable pub signers_answer : Option (List CertificateParts) → List ListParts → List ListParts → SecureBootAnswer
signers_answer None dbx db = if list_any has_certificates db then answer.Signed else answer.NotInDb
signers_answer (Some signers) dbx db = lead_answer (lists_lead signers dbx 0 db lead.Nowhere)

-- what db says of an image that isn't in dbx: a signed one may be allowed by what isn't compared
unfoldable pub db_answer : List ℕ → Signing → Option (List CertificateParts) → List ListParts → List ListParts → SecureBootAnswer
db_answer digest signing.Unsigned signers dbx db = if list_any (has_digest digest) db then answer.InDb else answer.NotSigned
db_answer digest _ signers dbx db =
    if list_any (has_digest digest) db || list_any has_others db then answer.Signed else signers_answer signers dbx db

-- what db says of an image of this digest that isn't in dbx
pub data IsDbAnswer (digest : List ℕ) (signed : Signing) (signers : Option (List CertificateParts)) (denied : List ListParts) (db : List ℕ)
    : SecureBootAnswer → Type 0 where
  damaged : {f : ListFault} → HasListFault db 0 f → IsDbAnswer digest signed signers denied db (answer.BadDb f)
  whole : {allowed : List ListParts} → HasLists db 0 allowed
      → IsDbAnswer digest signed signers denied db (db_answer digest signed signers denied allowed)

-- what dbx and then db say of an image of this digest
pub data IsListsAnswer (digest : List ℕ) (signed : Signing) (signers : Option (List CertificateParts)) (db dbx : List ℕ)
    : SecureBootAnswer → Type 0 where
  damaged_dbx : {f : ListFault} → HasListFault dbx 0 f → IsListsAnswer digest signed signers db dbx (answer.BadDbx f)
  in_dbx : {denied : List ListParts} → HasLists dbx 0 denied → IsTrue (is_in_dbx digest signed denied)
      → IsListsAnswer digest signed signers db dbx answer.InDbx
  by_db : {denied : List ListParts} {told : SecureBootAnswer} → HasLists dbx 0 denied → IsFalse (is_in_dbx digest signed denied)
      → IsDbAnswer digest signed signers denied db told → IsListsAnswer digest signed signers db dbx told

-- if these are the bytes of lists, one of them has digests, or none has
abbrev pub HaveDigests : List ℕ → Bool → Type 0
HaveDigests bytes some = (lists : List ListParts) → HasLists bytes 0 lists → list_any has_digests lists ≡ some

-- what is said of an image of the one digest is said of one of the other
abbrev pub AnswersAlike : List ℕ → List ℕ → List ℕ → List ℕ → Type 0
AnswersAlike one other db dbx =
    (signed : Signing) (signers : Option (List CertificateParts)) (told : SecureBootAnswer)
    → IsListsAnswer one signed signers db dbx told → IsListsAnswer other signed signers db dbx told

-- the certificates that an image has say this of it, or one isn't whole
abbrev pub IsSigning : List ℕ → Result Signing ℕ → Type 0
IsSigning file signed = IsSigned (certificate_table file) signing.Unsigned 0 signed

-- what Secure Boot, if it is on, answers to the image
pub data IsSecureBootAnswer (file : List ℕ) (is_on : Bool) (db dbx : List ℕ) : SecureBootAnswer → Type 0 where
  not_asked : IsFalse is_on → IsSecureBootAnswer file is_on db dbx answer.NotAsked
  no_digest : {f : DigestFault} → IsTrue is_on → digest_fault file ≡ Some f → IsSecureBootAnswer file is_on db dbx (answer.NoDigest f)
  bad_certificates : {place : ℕ} → IsTrue is_on → digest_fault file ≡ None → IsSigning file (Err place)
      → IsSecureBootAnswer file is_on db dbx (answer.BadCertificates (directory_start file 4 + place))
  no_signature : IsTrue is_on → digest_fault file ≡ None → IsSigning file (Ok signing.Unknown)
      → IsSecureBootAnswer file is_on db dbx answer.NoSignature
  by_lists : {digest : List ℕ} {signed : Signing} {told : SecureBootAnswer} → IsTrue is_on → digest_fault file ≡ None → IsDigest file digest
      → IsSigning file (Ok signed) → signed ≢ signing.Unknown
      → IsListsAnswer digest signed (all_signers 32 (certificate_table file) 0) db dbx told
      → IsSecureBootAnswer file is_on db dbx told

-- ---- what comes of an answer

-- of an image whose headers and sections overlap firmware digests some bytes twice
abbrev pub verdict_of : SecureBootAnswer → Verdict
verdict_of answer.NotAsked = verdict.Allowed
verdict_of answer.InDb = verdict.Allowed
verdict_of answer.Signed = verdict.Undecided
verdict_of (answer.SignedBy list entry) = verdict.Undecided
verdict_of (answer.NoDigest (undigested.Overlap found len)) = verdict.Undecided
verdict_of (answer.BadDb f) = verdict.Undecided
verdict_of (answer.BadDbx f) = verdict.Undecided
verdict_of _ = verdict.Denied

-- ---- what is so of an image that is allowed while Secure Boot is on

-- it isn't signed, and its digest is in db and not in dbx
pub record IsAllowed (file db dbx : List ℕ) : Type 0 where
  pub digest : List ℕ
  pub is_digest : IsDigest file digest
  pub unsigned : IsSigning file (Ok signing.Unsigned)
  pub denied : List ListParts
  pub in_dbx : HasLists dbx 0 denied
  pub not_denied : IsFalse (list_any (has_digest digest) denied)
  pub allowed : List ListParts
  pub in_db : HasLists db 0 allowed
  pub is_allowed : IsTrue (list_any (has_digest digest) allowed)
