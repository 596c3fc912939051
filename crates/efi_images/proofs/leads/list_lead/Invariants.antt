use Rattle.std.proofs.Common.{◌≡◌, ◌-◌, map}
use Rattle.efi_images.specs.Signatures.{list_parts}
use Rattle.efi_images.specs.X509.{certificate_parts}
use Rattle.efi_images.specs.Leads.{entry_count, entries_lead}
use Rattle.efi_images.proofs.leads.list_lead.Given as goal

abbrev pub invariant-loop-entry : goal.invariant-loop-entry
invariant-loop-entry l =
    let signers = map certificate_parts l.signers in
    let dbx = map list_parts l.dbx in
    let len = l.list.signature_len in
    let count = entry_count (list_parts l.list) in
    entries_lead signers dbx l.index 0 len l.list.signatures.now count l.fn.before
    ≡ entries_lead signers dbx l.index l.entry len l.rest (count - l.entry) l.found
