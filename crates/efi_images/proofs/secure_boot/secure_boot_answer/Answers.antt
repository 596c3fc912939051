use Rattle.std.proofs.Common.{◌∙◌, ◌+◌, refl, length, sym, ap, subst, arith, Ok, Err}
use Rattle.sha2.specs.Sha256.{sha256}
use Rattle.efi_images.specs.Headers.{directory_start}
use Rattle.efi_images.specs.Digest.{HasRanges, range_bytes}
use Rattle.efi_images.specs.Certificates.{certificate_table, IsSigned}
use Rattle.efi_images.specs.Signers.{all_signers}
use Rattle.efi_images.specs.SecureBoot.{IsListsAnswer, IsSecureBootAnswer, IsSigning, not_asked, no_digest, bad_certificates, no_signature, by_lists}
use Rattle.efi_images.specs.declared.certificates.Signing.TheVariants as signing
use Rattle.efi_images.specs.declared.answer.SecureBootAnswer.TheVariants as answer
use Rattle.efi_images.proofs.Undigested.{by_boot_manager}
use Rattle.efi_images.proofs.Answered.{of_other, ok_as}
use Rattle.efi_images.proofs.secure_boot.secure_boot_answer.Goals as goal

pub returns-then-not-secure_boot : goal.returns-then-not-secure_boot
returns-then-not-secure_boot c = not_asked c.if-not-secure_boot.true

pub returns-in-Err : goal.returns-in-Err
returns-in-Err c = no_digest c.if-not-secure_boot.false (by_boot_manager _ c.args.file.now _ c.in-Err.ensures.fault)

pub returns-in_default : goal.returns-in_default
returns-in_default c = no_digest c.if-not-secure_boot.false (of_other c.in-Err-front_ranges.ensures.fault c.in_default.not-OutOfMemory)

pub overflow_add-place : goal.overflow_add-place
overflow_add-place c = omega (arith, c.directory_start.type_inv, c.in-Err-read_certificates.ensures.place, c.certificate_table-table.type_inv.1)

pub returns-in-Err-read_certificates : goal.returns-in-Err-read_certificates
returns-in-Err-read_certificates c =
    let file = c.args.file.now in
    let on = c.args.secure_boot.now in
    let same = c.in-Ok.ensures.headers in
    subst (λ place. IsSecureBootAnswer file on.is_on on.db.now on.dbx.now (answer.BadCertificates place))
    (ap (λ start. start + c.in-Err-read_certificates.place) (sym (c.directory_start.ensures ∙ ap (λ headers. directory_start headers 4) same)))
    (bad_certificates c.if-not-secure_boot.false c.in-Ok-front_ranges.ensures.ranges.0
    (subst (λ table. IsSigned table signing.Unsigned 0 (Err c.in-Err-read_certificates.place))
    (c.certificate_table-table.ensures ∙ ap certificate_table same) c.in-Err-read_certificates.ensures.certificates))

pub returns-in-Unknown : goal.returns-in-Unknown
returns-in-Unknown c =
    let same = c.in-Ok.ensures.headers in
    no_signature c.if-not-secure_boot.false c.in-Ok-front_ranges.ensures.ranges.0
    (subst (λ says. IsSigning c.args.file.now (Ok says)) c.in-Unknown.is
    (subst (λ table. IsSigned table signing.Unsigned 0 (Ok c.in-Ok-read_certificates.signed))
    (c.certificate_table-table.ensures ∙ ap certificate_table same) c.in-Ok-read_certificates.ensures.certificates))

pub returns : goal.returns
returns c =
    let file = c.args.file.now in
    let on = c.args.secure_boot.now in
    let table = c.certificate_table-table.ensures ∙ ap certificate_table c.in-Ok.ensures.headers in
    let signed = c.in-Ok-read_certificates.signed in
    let ranges = c.deref.result.now in
    ok_as c.signed_answer.result
    (λ told is. by_lists {digest = sha256 (range_bytes file ranges)} c.if-not-secure_boot.false c.in-Ok-front_ranges.ensures.ranges.0
    (record {
      ranges = ranges;
      are_ranges = subst (λ all. HasRanges (length file) file all) (sym c.deref.ensures.value) c.in-Ok-front_ranges.ensures.ranges.1;
      is = refl;
    })
    (subst (λ table. IsSigned table signing.Unsigned 0 (Ok signed)) table c.in-Ok-read_certificates.ensures.certificates)
    c.in_default-signed.not-Unknown
    (subst (λ it. IsListsAnswer (sha256 (range_bytes file ranges)) signed (all_signers 32 it 0) on.db.now on.dbx.now told) table is))
    c.signed_answer.ensures
