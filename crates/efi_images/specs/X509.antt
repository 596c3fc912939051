-- Certificates of X.509 (RFC 5280, 4.1), and those that a signature of PKCS #7 has with it (RFC 2315, 9.1), as far as they
-- tell who may have signed.
use Rattle.std.specs.Prelude.{ℕ, zero, suc, ◌==◌, List, [], ◌∷◌, ◌++◌, length, Option, Some, None, if◌then◌else◌}
use Rattle.efi_images.specs.Der.{◌>>=◌, element_of, field}
use Rattle.efi_images.specs.declared.x509.Certificate.{Certificate}

-- ---- certificates

-- the names of who issued a certificate and of whom it is, and what is after the certificate
pub record CertificateParts : Type 0 where
  pub issuer : List ℕ
  pub subject : List ℕ
  pub rest : List ℕ

abbrev pub certificate_parts : Certificate → CertificateParts
certificate_parts c = record { issuer = c.issuer.now; subject = c.subject.now; rest = c.rest.now }

-- the fields of a certificate from its serial number on: a version may be before it
unfoldable pub after_version : List ℕ → Option (List ℕ)
after_version fields = do
  first ← element_of fields
  Some (if first.tag == 0xA0 then first.rest else fields)

-- the certificate that these bytes begin with: its serial number, the algorithm, who issued it, how long it holds, whose it is
unfoldable pub certificate_of : List ℕ → Option CertificateParts
certificate_of bytes = do
  whole ← field 0x30 bytes
  signed ← field 0x30 whole.body
  fields ← after_version signed.body
  serial ← field 0x02 fields
  algorithm ← field 0x30 serial.rest
  issuer ← field 0x30 algorithm.rest
  validity ← field 0x30 issuer.rest
  subject ← field 0x30 validity.rest
  Some (record { issuer = issuer.body; subject = subject.body; rest = whole.rest })

-- ---- those of a signature

-- the bytes of the certificates that a signature has with it: of its ContentInfo the type and its SignedData, and of this the
-- version, the hashes, what is signed, and the certificates, if there are some
unfoldable pub bundle_of : List ℕ → Option (List ℕ)
bundle_of signature = do
  whole ← field 0x30 signature
  kind ← field 0x06 whole.body
  tagged ← field 0xA0 kind.rest
  signed ← field 0x30 tagged.body
  version ← field 0x02 signed.body
  hashes ← field 0x31 version.rest
  content ← field 0x30 hashes.rest
  next ← element_of content.rest
  Some (if next.tag == 0xA0 then next.body else [])

-- these certificates, and more after them, if there are more
abbrev pub in_front : List CertificateParts → Option (List CertificateParts) → Option (List CertificateParts)
in_front first None = None
in_front first (Some others) = Some (first ++ others)

-- all certificates of these bytes, if there are no more than so many, and each is read
unfoldable pub bundled : ℕ → List ℕ → Option (List CertificateParts)
bundled zero bytes = if length bytes == 0 then Some [] else None
bundled (suc left) bytes =
    if length bytes == 0 then Some []
    else do
      first ← certificate_of bytes
      in_front (first ∷ []) (bundled left first.rest)
