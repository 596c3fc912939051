-- The certificates that the signatures of an image have with them.
use Rattle.std.specs.Prelude.{◌≡◌, ℕ, zero, suc, ◌+◌, nat_lt, not, Bool, List, [], length, map, Option, Some, None, if◌then◌else◌}
use Rattle.efi_images.specs.Der.{◌>>=◌}
use Rattle.efi_images.specs.Certificates.{is_whole, padded_len, signature_bytes, signing_of}
use Rattle.efi_images.specs.X509.{CertificateParts, certificate_parts, bundle_of, in_front, bundled}
use Rattle.efi_images.specs.declared.certificates.Signing.{Signing}
use Rattle.efi_images.specs.declared.certificates.Signing.TheVariants as signing
use Rattle.efi_images.specs.declared.x509.Certificate.{Certificate}

-- those of a signature that says this of the image, no more than 32: one that firmware doesn't know it doesn't look at
unfoldable pub signers_by : Signing → List ℕ → Option (List CertificateParts)
signers_by signing.Unknown signature = Some []
signers_by _ signature = do
  bundle ← bundle_of signature
  bundled 32 bundle

abbrev pub signers_of : List ℕ → Option (List CertificateParts)
signers_of signature = signers_by (signing_of signature) signature

-- those of all signatures of the table from this offset on, if there are no more than so many certificates of the image, and
-- each is whole and read
unfoldable pub all_signers : ℕ → List ℕ → ℕ → Option (List CertificateParts)
all_signers zero table place = if nat_lt place (length table) then None else Some []
all_signers (suc left) table place =
    if not (nat_lt place (length table)) then Some []
    else (if not (is_whole table place) then None
    else do
      these ← signers_of (signature_bytes table place)
      in_front these (all_signers left table (place + padded_len table place)))

-- these, if there are some, were added to those before
abbrev pub Adds : List Certificate → List Certificate → Option (List CertificateParts) → Bool → Type 0
Adds before after these done =
    in_front (map certificate_parts before) these ≡ (if done then Some (map certificate_parts after) else None)
