use Rattle.std.proofs.Common.{◌+◌, ◌∙◌, sym, ap, map, drop}
use Rattle.efi_images.specs.Signatures.{list_parts}
use Rattle.efi_images.specs.X509.{certificate_parts}
use Rattle.efi_images.specs.Leads.{lists_lead}
use Rattle.efi_images.proofs.Leading.{lists_step_at, lists_ended}
use Rattle.efi_images.proofs.leads.find_lead.Goals as goal

pub loop-index-preserved : goal.loop-index-preserved
loop-index-preserved c =
    let signers = map certificate_parts c.args.signers.now in
    let dbx = map list_parts c.args.dbx.now in
    let index = c.loop-index.index in
    c.loop-index.invariant
    ∙ lists_step_at signers dbx index c.args.db.now _ c.loop-index.found c.loop-index-test.true
    ∙ ap (λ found. lists_lead signers dbx (index + 1) (map list_parts (drop (index + 1) c.args.db.now)) found) (sym c.list_lead-found.ensures)

pub returns : goal.returns
returns c =
    sym (c.loop-index.invariant
    ∙ lists_ended (map certificate_parts c.args.signers.now) (map list_parts c.args.dbx.now) c.loop-index.index c.args.db.now
    c.loop-index.found c.loop-index-test.false)
