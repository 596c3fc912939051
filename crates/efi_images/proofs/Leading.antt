-- Certificates of db, as they are gone through one after the other.
use Rattle.std.proofs.Common.{◌≡◌, refl, ℕ, suc, ◌+◌, ◌-◌, ◌<◌, ◌≤◌, ◌==◌, ◌||◌, Bool, true, false, List, [], ◌∷◌, length, map, drop, get_or, Some, None, ◌∙◌, ap, sym, add-one, drop-cons, length-drop, arith}
use Rattle.std.specs.List.{list_any}
use Rattle.std.specs.Cmp.Lexicographic.{pointwise}
use Rattle.efi_images.specs.Signatures.{ListParts, list_parts}
use Rattle.efi_images.specs.X509.{CertificateParts, certificate_parts, certificate_of}
use Rattle.std.specs.Option.{option_map}
use Rattle.efi_images.specs.Leads.{is_of_certificates, entry_count, entry_data, has_entry, may_lead, leads, lead_of, joined, entries_lead, list_lead, lists_lead}
use Rattle.efi_images.specs.declared.leads.Lead.{Lead}
use Rattle.efi_images.specs.declared.x509.Certificate.{Certificate}
use Rattle.efi_images.specs.declared.signatures.SignatureList.{SignatureList}

pub any_signers : (test : CertificateParts → Bool) (all : List Certificate)
    → list_any (λ (signer : Certificate). test (certificate_parts signer)) all ≡ list_any test (map certificate_parts all)
any_signers test [] = refl
any_signers test (first ∷ others) = ap (λ b. test (certificate_parts first) || b) (any_signers test others)

-- ---- a certificate among those of a list

entry_step : (wanted : List ℕ) (len : ℕ) (signatures : List ℕ) (count counter : ℕ) → counter < count
    → has_entry wanted len signatures (count - counter)
    ≡ (pointwise ◌==◌ (entry_data signatures len) wanted || has_entry wanted len (drop len signatures) (count - (counter + 1)))
unfolding has_entry
entry_step wanted len signatures count counter below =
    let e : count - counter ≡ suc (count - (counter + 1)) = omega arith in
    rw e refl

pub entry_here : (wanted : List ℕ) (len : ℕ) (signatures : List ℕ) (count counter : ℕ) → counter < count
    → pointwise ◌==◌ (entry_data signatures len) wanted ≡ true → has_entry wanted len signatures (count - counter) ≡ true
entry_here wanted len signatures count counter below is =
    entry_step wanted len signatures count counter below ∙ ap (λ b. b || has_entry wanted len (drop len signatures) (count - (counter + 1))) is

pub entry_after : (wanted : List ℕ) (len : ℕ) (signatures : List ℕ) (count counter : ℕ) → counter < count
    → pointwise ◌==◌ (entry_data signatures len) wanted ≡ false
    → has_entry wanted len signatures (count - counter) ≡ has_entry wanted len (drop len signatures) (count - (counter + 1))
entry_after wanted len signatures count counter below is =
    entry_step wanted len signatures count counter below ∙ ap (λ b. b || has_entry wanted len (drop len signatures) (count - (counter + 1))) is

pub no_entry_left : (wanted : List ℕ) (len : ℕ) (signatures : List ℕ) (count counter : ℕ) → count ≤ counter
    → has_entry wanted len signatures (count - counter) ≡ false
unfolding has_entry
no_entry_left wanted len signatures count counter most =
    let e : count - counter ≡ 0 = omega arith in
    rw e refl

-- ---- where they lead to

pub lead_step : (signers : List CertificateParts) (dbx : List ListParts) (list len : ℕ) (signatures : List ℕ) (count counter : ℕ)
    (before : Lead) → counter < count
    → entries_lead signers dbx list counter len signatures (count - counter) before
    ≡ entries_lead signers dbx list (counter + 1) len (drop len signatures) (count - (counter + 1))
    (joined before (lead_of signers dbx list counter (entry_data signatures len)))
unfolding entries_lead
lead_step signers dbx list len signatures count counter before below =
    let e : count - counter ≡ suc (count - (counter + 1)) = omega arith in
    rw e refl

pub lead_ended : (signers : List CertificateParts) (dbx : List ListParts) (list len : ℕ) (signatures : List ℕ) (count counter : ℕ)
    (before : Lead) → count ≤ counter → entries_lead signers dbx list counter len signatures (count - counter) before ≡ before
unfolding entries_lead
lead_ended signers dbx list len signatures count counter before most =
    let e : count - counter ≡ 0 = omega arith in
    rw e refl

lists_step : (signers : List CertificateParts) (dbx : List ListParts) (index : ℕ) (all : List SignatureList) (first : SignatureList)
    (others : List SignatureList) (before : Lead) → all ≡ first ∷ others
    → lists_lead signers dbx index (map list_parts all) before
    ≡ lists_lead signers dbx (index + 1) (map list_parts others) (list_lead signers dbx index (list_parts first) before)
unfolding lists_lead
lists_step signers dbx index all first others before e = rw e refl

pub lists_step_at : (signers : List CertificateParts) (dbx : List ListParts) (index : ℕ) (all : List SignatureList) (one : SignatureList)
    (before : Lead) → index < length all
    → lists_lead signers dbx index (map list_parts (drop index all)) before
    ≡ lists_lead signers dbx (index + 1) (map list_parts (drop (index + 1) all))
    (list_lead signers dbx index (list_parts (get_or all index one)) before)
lists_step_at signers dbx index all one before below =
    lists_step signers dbx index (drop index all) (get_or all index one) (drop (index + 1) all) before
    (drop-cons all index one below ∙ ap (λ n. get_or all index one ∷ drop n all) (sym (add-one index)))

ended : (signers : List CertificateParts) (dbx : List ListParts) (index : ℕ) (all : List SignatureList) (before : Lead)
    → length all ≤ 0 → lists_lead signers dbx index (map list_parts all) before ≡ before
unfolding lists_lead
ended signers dbx index [] before none = refl
ended signers dbx index (first ∷ others) before none = grind arith

pub lists_ended : (signers : List CertificateParts) (dbx : List ListParts) (index : ℕ) (all : List SignatureList) (before : Lead)
    → length all ≤ index → lists_lead signers dbx index (map list_parts (drop index all)) before ≡ before
lists_ended signers dbx index all before most =
    ended signers dbx index (drop index all) before (grind (arith, length-drop))

pub of_certificates : (signers : List CertificateParts) (dbx : List ListParts) (index : ℕ) (l : ListParts) (before : Lead)
    → is_of_certificates l ≡ true
    → list_lead signers dbx index l before
    ≡ entries_lead signers dbx index 0 l.signature_len l.signatures (entry_count l) before
unfolding list_lead
of_certificates signers dbx index l before is = rw is refl

pub of_others : (signers : List CertificateParts) (dbx : List ListParts) (index : ℕ) (l : ListParts) (before : Lead)
    → is_of_certificates l ≡ false → list_lead signers dbx index l before ≡ before
unfolding list_lead
of_others signers dbx index l before is = rw is refl

pub leads_by : (signers : List CertificateParts) (bytes : List ℕ) (certificate : CertificateParts) → Some certificate ≡ certificate_of bytes
    → Some (may_lead signers certificate.subject) ≡ leads signers bytes
unfolding leads
leads_by signers bytes certificate is = ap (option_map (λ (c : CertificateParts). may_lead signers c.subject)) is

pub leads_unread : (signers : List CertificateParts) (bytes : List ℕ) → None ≡ certificate_of bytes → None ≡ leads signers bytes
unfolding leads
leads_unread signers bytes is = ap (option_map (λ (c : CertificateParts). may_lead signers c.subject)) is
