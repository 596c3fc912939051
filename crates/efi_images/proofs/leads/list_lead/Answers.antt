use Rattle.std.proofs.Common.{◌+◌, ◌-◌, ◌∙◌, sym, ap, map, drop}
use Rattle.efi_images.specs.Signatures.{list_parts}
use Rattle.efi_images.specs.X509.{certificate_parts}
use Rattle.efi_images.specs.Leads.{entry_count, lead_of, joined, entries_lead}
use Rattle.efi_images.proofs.Leading.{lead_step, lead_ended, of_certificates, of_others}
use Rattle.efi_images.proofs.leads.list_lead.Goals as goal

pub returns-then-not-is_of_certificates : goal.returns-then-not-is_of_certificates
returns-then-not-is_of_certificates c =
    sym (of_others (map certificate_parts c.args.signers.now) (map list_parts c.args.dbx.now) c.args.index (list_parts c.args.list.now)
    c.args.before (sym c.is_of_certificates.ensures ∙ c.if-not-is_of_certificates.true))

pub loop-entry-preserved : goal.loop-entry-preserved
loop-entry-preserved c =
    let below = rw c.entry_count-entry-end.ensures at c.loop-entry-test.true in
    let signers = map certificate_parts c.args.signers.now in
    let dbx = map list_parts c.args.dbx.now in
    let list = c.args.index in
    let len = c.args.list.now.signature_len in
    let rest = c.loop-entry.rest.now in
    let entry = c.loop-entry.entry in
    let left = entry_count (list_parts c.args.list.now) - (entry + 1) in
    let says =
    c.joined-found.ensures
    ∙ ap (λ lead. joined c.loop-entry.found lead)
    (c.lead_of.ensures ∙ ap (λ bytes. lead_of signers dbx list entry bytes) c.entry_data-bytes.ensures) in
    c.loop-entry.invariant
    ∙ lead_step signers dbx list len rest (entry_count (list_parts c.args.list.now)) entry c.loop-entry.found below
    ∙ ap (λ found. entries_lead signers dbx list (entry + 1) len (drop len rest) left found) (sym says)
    ∙ ap (λ behind. entries_lead signers dbx list (entry + 1) len behind left c.joined-found.result) (sym c.behind-rest.ensures)

pub returns : goal.returns
returns c =
    let most = rw c.entry_count-entry-end.ensures at c.loop-entry-test.false in
    let signers = map certificate_parts c.args.signers.now in
    let dbx = map list_parts c.args.dbx.now in
    sym (of_certificates signers dbx c.args.index (list_parts c.args.list.now) c.args.before
    (sym c.is_of_certificates.ensures ∙ c.if-not-is_of_certificates.false)
    ∙ c.loop-entry.invariant
    ∙ lead_ended signers dbx c.args.index c.args.list.now.signature_len c.loop-entry.rest.now (entry_count (list_parts c.args.list.now))
    c.loop-entry.entry c.loop-entry.found most)
