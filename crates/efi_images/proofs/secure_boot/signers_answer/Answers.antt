use Rattle.std.proofs.Common.{ap, sym, ◌∙◌, map, if◌then◌else◌}
use Rattle.efi_images.specs.Signatures.{list_parts}
use Rattle.efi_images.specs.X509.{certificate_parts}
use Rattle.efi_images.specs.Leads.{lists_lead}
use Rattle.efi_images.specs.SecureBoot.{lead_answer, signers_answer}
use Rattle.efi_images.specs.declared.leads.Lead.TheVariants as lead
use Rattle.efi_images.specs.declared.answer.SecureBootAnswer.TheVariants as answer
use Rattle.efi_images.proofs.Answered.{untold}
use Rattle.efi_images.proofs.secure_boot.signers_answer.Goals as goal

pub returns-in-Some : goal.returns-in-Some
unfolding signers_answer
returns-in-Some c =
    rw c.in-Some.is
    (c.lead_answer.ensures
    ∙ ap lead_answer (c.find_lead.ensures
    ∙ ap (λ all. lists_lead (map certificate_parts all) (map list_parts c.args.dbx.now) 0 (map list_parts c.args.db.now) lead.Nowhere) c.deref.ensures.value))

pub returns-in-None : goal.returns-in-None
returns-in-None c =
    rw c.in-None.is
    (sym (untold (map list_parts c.args.dbx.now) c.args.db.now _ c.have_certificates.ensures
    ∙ ap (λ b. if b then answer.Signed else answer.NotInDb) c.if-have_certificates.true))

pub returns-in-None-2 : goal.returns-in-None-2
returns-in-None-2 c =
    rw c.in-None-2.is
    (sym (untold (map list_parts c.args.dbx.now) c.args.db.now _ c.have_certificates.ensures
    ∙ ap (λ b. if b then answer.Signed else answer.NotInDb) c.if-have_certificates.false))
