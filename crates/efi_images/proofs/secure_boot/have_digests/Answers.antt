use Rattle.std.proofs.Common.{◌∙◌, ap, sym, map}
use Rattle.std.specs.List.{list_any}
use Rattle.efi_images.specs.Signatures.{list_parts}
use Rattle.efi_images.specs.SecureBoot.{has_digests}
use Rattle.efi_images.proofs.Answered.{of_other, any_parts}
use Rattle.efi_images.proofs.Compared.{only, unharmed}
use Rattle.efi_images.proofs.secure_boot.have_digests.Goals as goal

pub returns-in-Ok : goal.returns-in-Ok
returns-in-Ok c = λ lists h.
    ap (list_any has_digests) (only c.args.bytes.now 0 lists (map list_parts c.in-Ok.lists.items) h c.in-Ok.ensures.lists)
    ∙ ap (λ all. list_any has_digests (map list_parts all)) (sym c.deref.ensures.value)
    ∙ sym (c.has_digests.ensures ∙ any_parts has_digests c.deref.result.now)

pub returns-in_default : goal.returns-in_default
returns-in_default c = λ lists h.
    absurd (unharmed c.args.bytes.now 0 lists _ h (of_other c.in-Err.ensures.fault c.in_default.not-OutOfMemory))
