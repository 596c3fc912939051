use Rattle.std.proofs.Common.{◌≡◌, ◌-◌}
use Rattle.efi_images.specs.Signatures.{list_parts}
use Rattle.efi_images.specs.Leads.{entry_count, has_entry}
use Rattle.efi_images.proofs.leads.has_entry.Given as goal

abbrev pub invariant-loop : goal.invariant-loop
invariant-loop l =
    has_entry l.wanted l.list.signature_len l.list.signatures.now (entry_count (list_parts l.list))
    ≡ has_entry l.wanted l.list.signature_len l.rest (entry_count (list_parts l.list) - l.counter)
