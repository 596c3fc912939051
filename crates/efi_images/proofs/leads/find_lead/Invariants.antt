use Rattle.std.proofs.Common.{◌≡◌, map, drop}
use Rattle.efi_images.specs.Signatures.{list_parts}
use Rattle.efi_images.specs.X509.{certificate_parts}
use Rattle.efi_images.specs.Leads.{lists_lead}
use Rattle.efi_images.specs.declared.leads.Lead.TheVariants as lead
use Rattle.efi_images.proofs.leads.find_lead.Given as goal

abbrev pub invariant-loop-index : goal.invariant-loop-index
invariant-loop-index l =
    lists_lead (map certificate_parts l.signers) (map list_parts l.dbx) 0 (map list_parts l.db) lead.Nowhere
    ≡ lists_lead (map certificate_parts l.signers) (map list_parts l.dbx) l.index (map list_parts (drop l.index l.db)) l.found
