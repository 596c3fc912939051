-- Certificates, as they are read one after the other.
use Rattle.std.proofs.Common.{◌≡◌, ◌≢◌, refl, ℕ, zero, suc, ◌+◌, ◌-◌, ◌<◌, ◌≤◌, ◌==◌, Bool, true, false, List, [], ◌∷◌, ◌++◌, length, map, Option, Some, None, if◌then◌else◌, not, nat_lt, ◌∙◌, ap, sym, append_assoc, append-nil, arith}
use Rattle.efi_images.specs.Der.{◌>>=◌}
use Rattle.efi_images.specs.Certificates.{is_whole, padded_len, signature_bytes, signing_of}
use Rattle.efi_images.specs.X509.{CertificateParts, certificate_parts, certificate_of, bundle_of, in_front, bundled}
use Rattle.efi_images.specs.Signers.{signers_by, signers_of, all_signers}
use Rattle.efi_images.specs.declared.x509.Certificate.{Certificate}
use Rattle.efi_images.specs.declared.certificates.Signing.{Signing}
use Rattle.efi_images.specs.declared.certificates.Signing.TheVariants as signing

joined : (a b : List CertificateParts) (o : Option (List CertificateParts)) → in_front a (in_front b o) ≡ in_front (a ++ b) o
joined a b None = refl
joined a b (Some more) = ap Some (sym (append_assoc a b more))

pub none_more : (a : List CertificateParts) → in_front a (Some []) ≡ Some a
none_more a = ap Some (append-nil a)

grown : (before : List Certificate) (one : Certificate)
    → map certificate_parts (before ++ (one ∷ [])) ≡ map certificate_parts before ++ (certificate_parts one ∷ [])
grown [] one = refl
grown (first ∷ before) one = ap (λ all. certificate_parts first ∷ all) (grown before one)

-- ---- those of one signature

bundle_step : (rest : List ℕ) (counter : ℕ) → counter < 32 → (length rest == 0) ≡ false
    → bundled (32 - counter) rest ≡ (certificate_of rest >>= λ first. in_front (first ∷ []) (bundled (32 - (counter + 1)) first.rest))
unfolding bundled
bundle_step rest counter below some =
    let e : 32 - counter ≡ suc (32 - (counter + 1)) = omega arith in
    rw e (rw some refl)

pub bundle_more : (before : List Certificate) (one : Certificate) (rest : List ℕ) (counter : ℕ) → counter < 32
    → (length rest == 0) ≡ false → Some (certificate_parts one) ≡ certificate_of rest
    → in_front (map certificate_parts (before ++ (one ∷ []))) (bundled (32 - (counter + 1)) one.rest.now)
    ≡ in_front (map certificate_parts before) (bundled (32 - counter) rest)
bundle_more before one rest counter below some is =
    ap (λ all. in_front all (bundled (32 - (counter + 1)) one.rest.now)) (grown before one)
    ∙ sym (joined (map certificate_parts before) (certificate_parts one ∷ []) (bundled (32 - (counter + 1)) one.rest.now))
    ∙ ap (in_front (map certificate_parts before))
    (sym (bundle_step rest counter below some
    ∙ ap (λ it. it >>= λ first. in_front (first ∷ []) (bundled (32 - (counter + 1)) first.rest)) (sym is)))

pub bundle_unread : (before : List CertificateParts) (rest : List ℕ) (counter : ℕ) → counter < 32 → (length rest == 0) ≡ false
    → None ≡ certificate_of rest → in_front before (bundled (32 - counter) rest) ≡ None
bundle_unread before rest counter below some is =
    ap (in_front before) (bundle_step rest counter below some
    ∙ ap (λ it. it >>= λ first. in_front (first ∷ []) (bundled (32 - (counter + 1)) first.rest)) (sym is))

empty : (left : ℕ) (rest : List ℕ) → (length rest == 0) ≡ true → bundled left rest ≡ Some []
unfolding bundled
empty zero rest e = rw e refl
empty (suc left) rest e = rw e refl

pub bundle_ended : (before : List CertificateParts) (rest : List ℕ) (left : ℕ) → (length rest == 0) ≡ true
    → in_front before (bundled left rest) ≡ Some before
bundle_ended before rest left e = ap (in_front before) (empty left rest e) ∙ none_more before

pub bundle_out : (before : List CertificateParts) (rest : List ℕ) (counter : ℕ) (ended : Bool) → 32 ≤ counter → ended ≡ (length rest == 0)
    → in_front before (bundled (32 - counter) rest) ≡ (if ended then Some before else None)
unfolding bundled
bundle_out before rest counter true most e = bundle_ended before rest (32 - counter) (sym e)
bundle_out before rest counter false most e =
    let n : 32 - counter ≡ 0 = omega arith in
    let f = sym e in
    rw n (rw f refl)

-- ---- those of an image

pub known : (says : Signing) (signature : List ℕ) → says ≢ signing.Unknown
    → signers_by says signature ≡ (bundle_of signature >>= λ bundle. bundled 32 bundle)
unfolding signers_by
known signing.Unknown signature not = absurd (not refl)
known signing.Unsigned signature not = refl
known signing.Other signature not = refl
known signing.Sha256 signature not = refl

signers_step : (table : List ℕ) (place counter : ℕ) → counter < 32 → place < length table → is_whole table place ≡ true
    → all_signers (32 - counter) table place
    ≡ (signers_of (signature_bytes table place) >>= λ these. in_front these (all_signers (32 - (counter + 1)) table (place + padded_len table place)))
unfolding all_signers
signers_step table place counter below within whole =
    let e : 32 - counter ≡ suc (32 - (counter + 1)) = omega arith in
    let f : nat_lt place (length table) ≡ true = grind arith in
    rw e (rw f (rw whole refl))

more : (before after : List CertificateParts) (these : Option (List CertificateParts)) (others : Option (List CertificateParts))
    → in_front before these ≡ Some after → in_front after others ≡ in_front before (these >>= λ these. in_front these others)
more before after None others e = grind arith
more before after (Some these) others e =
    let f : before ++ these ≡ after = grind arith in
    ap (λ all. in_front all others) (sym f) ∙ sym (joined before these others)

pub signers_more : (before after : List CertificateParts) (table : List ℕ) (place counter : ℕ) → counter < 32 → place < length table
    → is_whole table place ≡ true → in_front before (signers_of (signature_bytes table place)) ≡ Some after
    → in_front after (all_signers (32 - (counter + 1)) table (place + padded_len table place))
    ≡ in_front before (all_signers (32 - counter) table place)
signers_more before after table place counter below within whole e =
    more before after (signers_of (signature_bytes table place)) _ e ∙ ap (in_front before) (sym (signers_step table place counter below within whole))

fails : (before : List CertificateParts) (these : Option (List CertificateParts)) (others : Option (List CertificateParts))
    → in_front before these ≡ None → in_front before (these >>= λ these. in_front these others) ≡ None
fails before None others e = refl
fails before (Some these) others e = grind arith

pub signers_unread : (before : List CertificateParts) (table : List ℕ) (place counter : ℕ) → counter < 32 → place < length table
    → is_whole table place ≡ true → in_front before (signers_of (signature_bytes table place)) ≡ None
    → in_front before (all_signers (32 - counter) table place) ≡ None
signers_unread before table place counter below within whole e =
    ap (in_front before) (signers_step table place counter below within whole) ∙ fails before (signers_of (signature_bytes table place)) _ e

pub signers_broken : (before : List CertificateParts) (table : List ℕ) (place counter : ℕ) → counter < 32 → place < length table
    → is_whole table place ≡ false → in_front before (all_signers (32 - counter) table place) ≡ None
unfolding all_signers
signers_broken before table place counter below within whole =
    let e : 32 - counter ≡ suc (32 - (counter + 1)) = omega arith in
    let f : nat_lt place (length table) ≡ true = grind arith in
    rw e (rw f (rw whole refl))

none_there : (table : List ℕ) (place left : ℕ) → length table ≤ place → all_signers left table place ≡ Some []
unfolding all_signers
none_there table place zero most = let f : nat_lt place (length table) ≡ false = grind arith in rw f refl
none_there table place (suc left) most = let f : nat_lt place (length table) ≡ false = grind arith in rw f refl

pub signers_ended : (before : List CertificateParts) (table : List ℕ) (place left : ℕ) → length table ≤ place
    → in_front before (all_signers left table place) ≡ Some before
signers_ended before table place left most = ap (in_front before) (none_there table place left most) ∙ none_more before

pub signers_out : (before : List CertificateParts) (table : List ℕ) (place counter : ℕ) → 32 ≤ counter → place < length table
    → in_front before (all_signers (32 - counter) table place) ≡ None
unfolding all_signers
signers_out before table place counter most within =
    let n : 32 - counter ≡ 0 = omega arith in
    let f : nat_lt place (length table) ≡ true = grind arith in
    rw n (rw f refl)

pub from_start : (o : Option (List CertificateParts)) → in_front [] o ≡ o
from_start None = refl
from_start (Some all) = refl

pub unknown : (signature : List ℕ) → signing_of signature ≡ signing.Unknown → signers_of signature ≡ Some []
unfolding signers_by
unknown signature e = ap (λ says. signers_by says signature) e

pub of_bundle : (signature bundle : List ℕ) → signing_of signature ≢ signing.Unknown → Some bundle ≡ bundle_of signature
    → signers_of signature ≡ bundled 32 bundle
of_bundle signature bundle not is =
    known (signing_of signature) signature not ∙ ap (λ it. it >>= λ bundle. bundled 32 bundle) (sym is)

pub of_no_bundle : (signature : List ℕ) → signing_of signature ≢ signing.Unknown → None ≡ bundle_of signature → signers_of signature ≡ None
of_no_bundle signature not is =
    known (signing_of signature) signature not ∙ ap (λ it. it >>= λ bundle. bundled 32 bundle) (sym is)
