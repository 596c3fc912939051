-- An image that Secure Boot allows.
use Rattle.std.proofs.Common.{◌≡◌, refl, ℕ, Bool, true, false, List, Option, Some, None, IsTrue, IsFalse, Ok, subst, arith, if◌then◌else◌}
use Rattle.std.specs.List.{list_any}
use Rattle.efi_images.specs.Digest.{IsDigest}
use Rattle.efi_images.specs.Signatures.{ListParts, HasLists}
use Rattle.efi_images.specs.X509.{CertificateParts}
use Rattle.efi_images.specs.Leads.{lists_lead}
use Rattle.efi_images.specs.declared.leads.Lead.{Lead}
use Rattle.efi_images.specs.declared.leads.Lead.TheVariants as lead
use Rattle.efi_images.specs.SecureBoot.{has_digest, has_certificates, is_in_dbx, lead_answer, signers_answer, db_answer, IsDbAnswer, damaged, whole, IsListsAnswer, damaged_dbx, in_dbx, by_db, IsSigning, IsSecureBootAnswer, not_asked, no_digest, bad_certificates, no_signature, by_lists, IsAllowed, verdict_of}
use Rattle.efi_images.specs.declared.certificates.Signing.{Signing}
use Rattle.efi_images.specs.declared.certificates.Signing.TheVariants as signing
use Rattle.efi_images.specs.declared.answer.SecureBootAnswer.{SecureBootAnswer}
use Rattle.efi_images.specs.declared.answer.SecureBootAnswer.TheVariants as answer
use Rattle.efi_images.specs.declared.answer.Verdict.TheVariants as verdict
use Rattle.efi_images.specs.declared.digest_fault.DigestFault.{DigestFault}
use Rattle.efi_images.specs.declared.digest_fault.DigestFault.TheVariants as fault

found : (b : Bool) → verdict_of (if b then answer.InDb else answer.NotSigned) ≡ verdict.Allowed → b ≡ true
found true e = refl
found false e = grind arith

undecided : (b : Bool) (other : SecureBootAnswer) → (verdict_of other ≡ verdict.Allowed → ⊥)
    → verdict_of (if b then answer.Signed else other) ≡ verdict.Allowed → ⊥
undecided true other never e = grind arith
undecided false other never e = never e

not_in_db : verdict_of answer.NotInDb ≡ verdict.Allowed → ⊥
not_in_db e = grind arith

lead_never : (l : Lead) → verdict_of (lead_answer l) ≡ verdict.Allowed → ⊥
lead_never lead.Nowhere e = grind arith
lead_never (lead.Denied list entry) e = grind arith
lead_never lead.Unread e = grind arith
lead_never (lead.Certificate list entry) e = grind arith

signers_never : (signers : Option (List CertificateParts)) (dbx db : List ListParts)
    → verdict_of (signers_answer signers dbx db) ≡ verdict.Allowed → ⊥
unfolding signers_answer
signers_never None dbx db e = undecided (list_any has_certificates db) answer.NotInDb not_in_db e
signers_never (Some all) dbx db e = lead_never (lists_lead all dbx 0 db lead.Nowhere) e

undigested : (f : DigestFault) → verdict_of (answer.NoDigest f) ≡ verdict.Allowed → ⊥
undigested (fault.Image f) e = grind arith
undigested (fault.Overlap found len) e = grind arith
undigested (fault.CertificatesOverlap found size len) e = grind arith
undigested fault.OutOfMemory e = grind arith

-- what db allows isn't signed, and has its digest in it
pub data IsInDb (digest : List ℕ) (signed : Signing) (allowed : List ListParts) : Type 0 where
  is : signed ≡ signing.Unsigned → IsTrue (list_any (has_digest digest) allowed) → IsInDb digest signed allowed

in_lists : (digest : List ℕ) (signed : Signing) (signers : Option (List CertificateParts)) (denied allowed : List ListParts)
    → verdict_of (db_answer digest signed signers denied allowed) ≡ verdict.Allowed → IsInDb digest signed allowed
unfolding db_answer
in_lists digest signing.Unsigned signers denied allowed e = is refl (found (list_any (has_digest digest) allowed) e)
in_lists digest signing.Unknown signers denied allowed e = absurd (undecided _ _ (signers_never signers denied allowed) e)
in_lists digest signing.Other signers denied allowed e = absurd (undecided _ _ (signers_never signers denied allowed) e)
in_lists digest signing.Sha256 signers denied allowed e = absurd (undecided _ _ (signers_never signers denied allowed) e)

not_denied : (digest : List ℕ) (signed : Signing) (denied : List ListParts) → signed ≡ signing.Unsigned
    → IsFalse (is_in_dbx digest signed denied) → IsFalse (list_any (has_digest digest) denied)
unfolding is_in_dbx
not_denied digest says denied e not = subst (λ it. IsFalse (is_in_dbx digest it denied)) e not

-- lists of db of which one has its digest
pub data IsFound (digest : List ℕ) (signed : Signing) (db : List ℕ) : Type 0 where
  is_found : {allowed : List ListParts} → HasLists db 0 allowed → IsInDb digest signed allowed → IsFound digest signed db

db_allowed : (digest : List ℕ) (signed : Signing) (signers : Option (List CertificateParts)) (denied : List ListParts) (db : List ℕ)
    (told : SecureBootAnswer) → IsDbAnswer digest signed signers denied db told → verdict_of told ≡ verdict.Allowed → IsFound digest signed db
db_allowed digest says signers denied db _ (damaged f) e = grind arith
db_allowed digest says signers denied db _ (whole {allowed} lists) e = is_found lists (in_lists digest says signers denied allowed e)

allowed_image : (file db dbx digest : List ℕ) (signed : Signing) (denied : List ListParts) → IsDigest file digest
    → IsSigning file (Ok signed) → HasLists dbx 0 denied → IsFalse (is_in_dbx digest signed denied) → IsFound digest signed db
    → IsAllowed file db dbx
allowed_image file db dbx digest _ denied is_digest says lists not (is_found {allowed} others (is unsigned has)) = record {
  digest = digest;
  is_digest = is_digest;
  unsigned = subst (λ it. IsSigning file (Ok it)) unsigned says;
  denied = denied;
  in_dbx = lists;
  not_denied = not_denied digest _ denied unsigned not;
  allowed = allowed;
  in_db = others;
  is_allowed = has;
}

lists_allowed : (file db dbx digest : List ℕ) (signed : Signing) (signers : Option (List CertificateParts)) (told : SecureBootAnswer)
    → IsDigest file digest → IsSigning file (Ok signed) → IsListsAnswer digest signed signers db dbx told
    → verdict_of told ≡ verdict.Allowed → IsAllowed file db dbx
lists_allowed file db dbx digest it signers _ is_digest says (damaged_dbx f) e = grind arith
lists_allowed file db dbx digest it signers _ is_digest says (in_dbx lists has) e = grind arith
lists_allowed file db dbx digest it signers told is_digest says (by_db {denied} lists not by) e =
    allowed_image file db dbx digest it denied is_digest says lists not (db_allowed digest it signers denied db told by e)

pub image_allowed : (file db dbx : List ℕ) (told : SecureBootAnswer) → IsSecureBootAnswer file true db dbx told
    → verdict_of told ≡ verdict.Allowed → IsAllowed file db dbx
image_allowed file db dbx _ (not_asked off) e = grind arith
image_allowed file db dbx _ (no_digest {f} on none) e = absurd (undigested f e)
image_allowed file db dbx _ (bad_certificates on none at) e = grind arith
image_allowed file db dbx _ (no_signature on none says) e = grind arith
image_allowed file db dbx told (by_lists {digest} {signed} on none is_digest says known by) e =
    lists_allowed file db dbx digest signed _ told is_digest says by e
