use Rattle.std.proofs.Common.{◌∙◌, ap, Some, map}
use Rattle.efi_images.specs.X509.{CertificateParts, certificate_parts}
use Rattle.efi_images.specs.Leads.{leads_to}
use Rattle.efi_images.proofs.Leading.{any_signers, leads_by, leads_unread}
use Rattle.efi_images.proofs.leads.leads.Goals as goal

pub returns-in-Some : goal.returns-in-Some
returns-in-Some c =
    ap Some (c.may_lead.ensures
    ∙ any_signers (λ (signer : CertificateParts). leads_to signer c.in-Some.certificate.subject.now) c.args.signers.now)
    ∙ leads_by (map certificate_parts c.args.signers.now) c.args.bytes.now (certificate_parts c.in-Some.certificate) c.in-Some.ensures

pub returns-in-None : goal.returns-in-None
returns-in-None c =
    let is = rw c.in-None.is at c.read_certificate.ensures in
    leads_unread (map certificate_parts c.args.signers.now) c.args.bytes.now is
