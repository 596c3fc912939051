use Rattle.std.proofs.Common.{◌∙◌, ap, map}
use Rattle.efi_images.specs.X509.{certificate_parts}
use Rattle.efi_images.specs.Leads.{has_certificate, leads, lead_by, lead_of}
use Rattle.efi_images.proofs.Answered.{any_parts}
use Rattle.efi_images.proofs.leads.lead_of.Goals as goal

pub returns : goal.returns
unfolding lead_of
returns c =
    c.lead_by.ensures
    ∙ ap (λ may. lead_by may c.have_certificate.result c.args.list c.args.entry) c.leads.ensures
    ∙ ap (λ denied. lead_by (leads (map certificate_parts c.args.signers.now) c.args.bytes.now) denied c.args.list c.args.entry)
    (c.have_certificate.ensures ∙ any_parts (has_certificate c.args.bytes.now) c.args.dbx.now)
