-- Which certificate of db the signatures of an image may lead to, by the names in their certificates.
use Rattle.std.specs.Prelude.{ℕ, zero, suc, ◌+◌, ◌-◌, ◌/◌, ◌==◌, ◌&&◌, ◌||◌, Bool, true, false, List, [], ◌∷◌, length, drop, Option, Some, None, option_map, if◌then◌else◌}
use Rattle.std.specs.Cmp.Lexicographic.{pointwise}
use Rattle.std.specs.List.{list_any}
use Rattle.efi_images.specs.Digest.{part}
use Rattle.efi_images.specs.Signatures.{ListParts}
use Rattle.efi_images.specs.Names.{is_alike}
use Rattle.efi_images.specs.X509.{CertificateParts, certificate_of}
use Rattle.efi_images.specs.declared.leads.Lead.{Lead}
use Rattle.efi_images.specs.declared.leads.Lead.TheVariants as lead

-- ---- certificates in lists of signatures

-- EFI_CERT_X509_GUID, as it is stored
abbrev pub x509_guid : List ℕ
x509_guid =
    0xA1 ∷ 0x59 ∷ 0xC0 ∷ 0xA5 ∷ 0xE4 ∷ 0x94 ∷ 0xA7 ∷ 0x4A ∷ 0x87 ∷ 0xB5 ∷ 0xAB ∷ 0x15 ∷ 0x5C ∷ 0x2B ∷ 0xF0 ∷ 0x72 ∷ []

-- the list is one of certificates
abbrev pub is_of_certificates : ListParts → Bool
is_of_certificates l = pointwise ◌==◌ l.kind x509_guid

-- how many signatures the list has
abbrev pub entry_count : ListParts → ℕ
entry_count l = if l.signature_len == 0 then 0 else length l.signatures / l.signature_len

-- the data of the first of these signatures of so many bytes, after the 16 for its owner
abbrev pub entry_data : List ℕ → ℕ → List ℕ
entry_data signatures len = part signatures 16 (len - 16)

-- one of so many signatures has these data
unfoldable pub has_entry : List ℕ → ℕ → List ℕ → ℕ → Bool
has_entry wanted len signatures zero = false
has_entry wanted len signatures (suc count) =
    pointwise ◌==◌ (entry_data signatures len) wanted || has_entry wanted len (drop len signatures) count

-- the list has this certificate, byte by byte
unfoldable pub has_certificate : List ℕ → ListParts → Bool
has_certificate wanted l = is_of_certificates l && has_entry wanted l.signature_len l.signatures (entry_count l)

-- ---- where a signature may lead to

-- A certificate with this name may be the one that a certificate of a signature is, or the one that issued it. A row of
-- certificates that firmware goes through ends so, whatever the values of the signatures are.
abbrev pub leads_to : CertificateParts → List ℕ → Bool
leads_to signer subject = is_alike signer.issuer subject || is_alike signer.subject subject

abbrev pub may_lead : List CertificateParts → List ℕ → Bool
may_lead signers subject = list_any (λ (signer : CertificateParts). leads_to signer subject) signers

-- whether they may lead to the certificate of these bytes, if it is read
unfoldable pub leads : List CertificateParts → List ℕ → Option Bool
leads signers bytes = option_map (λ (certificate : CertificateParts). may_lead signers certificate.subject) (certificate_of bytes)

-- What is said of a certificate of db: one that dbx has too allows nothing, since firmware denies each image that it allows.
abbrev pub lead_by : Option Bool → Bool → ℕ → ℕ → Lead
lead_by (Some false) denied list entry = lead.Nowhere
lead_by (Some true) denied list entry = if denied then lead.Denied list entry else lead.Certificate list entry
lead_by None denied list entry = if denied then lead.Nowhere else lead.Unread

unfoldable pub lead_of : List CertificateParts → List ListParts → ℕ → ℕ → List ℕ → Lead
lead_of signers dbx list entry bytes = lead_by (leads signers bytes) (list_any (has_certificate bytes) dbx) list entry

-- what two of them say: the first that allows an image comes first, then one that isn't read, then the first that is denied
abbrev pub joined : Lead → Lead → Lead
joined (lead.Certificate list entry) another = lead.Certificate list entry
joined before (lead.Certificate list entry) = lead.Certificate list entry
joined lead.Unread another = lead.Unread
joined before lead.Unread = lead.Unread
joined (lead.Denied list entry) another = lead.Denied list entry
joined before another = another

-- what so many certificates from this index of the list on say, together with those before them
unfoldable pub entries_lead : List CertificateParts → List ListParts → ℕ → ℕ → ℕ → List ℕ → ℕ → Lead → Lead
entries_lead signers dbx list entry len signatures zero before = before
entries_lead signers dbx list entry len signatures (suc count) before =
    entries_lead signers dbx list (entry + 1) len (drop len signatures) count
    (joined before (lead_of signers dbx list entry (entry_data signatures len)))

unfoldable pub list_lead : List CertificateParts → List ListParts → ℕ → ListParts → Lead → Lead
list_lead signers dbx list l before =
    if is_of_certificates l
    then entries_lead signers dbx list 0 l.signature_len l.signatures (entry_count l) before
    else before

-- what the lists from this index on say, together with those before them
unfoldable pub lists_lead : List CertificateParts → List ListParts → ℕ → List ListParts → Lead → Lead
lists_lead signers dbx list [] before = before
lists_lead signers dbx list (l ∷ others) before =
    lists_lead signers dbx (list + 1) others (list_lead signers dbx list l before)
