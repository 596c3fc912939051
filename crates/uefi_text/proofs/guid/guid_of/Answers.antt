use Rattle.std.proofs.Common.{◌∙◌, ℕ, List, ap, sym, subst, true≢false, Some}
use Rattle.uuid.specs.Parts.{swap_fields}
use Rattle.uefi_path.specs.declared.guid.Guid.{Guid}
use Rattle.uefi_text.specs.Guid.{IsGuid}
use Rattle.uefi_text.proofs.Bytes.Guids.{guid_found, guid_again, guid_length, guid_only, guid_none}
use Rattle.uefi_text.proofs.guid.guid_of.Goals as goal

of_bytes : List ℕ → Guid
of_bytes bytes = record { 0 = bytes }

pub returns-then-text-ne-GUID_TEXT_LEN-clause-only : goal.returns-then-text-ne-GUID_TEXT_LEN-clause-only
returns-then-text-ne-GUID_TEXT_LEN-clause-only c =
    λ guid is. absurd (c.if-text-ne-GUID_TEXT_LEN.true (guid_length c.args.text.now guid.0 is))

pub returns-in-Err-clause-only : goal.returns-in-Err-clause-only
returns-in-Err-clause-only c =
    λ guid is. absurd (true≢false (sym (c.in-Err.ensures.ok.1 (swap_fields guid.0, guid_again c.args.text.now guid.0 is))))

pub returns-in-Ok-clause-found : goal.returns-in-Ok-clause-found
returns-in-Ok-clause-found c =
    subst (λ bytes. IsGuid c.args.text.now bytes) (sym c.to_bytes_le.ensures)
    (guid_found c.args.text.now c.in-Ok.id c.if-text-ne-GUID_TEXT_LEN.false (sym c.in-Ok.ensures.bytes))

pub returns-in-Ok-clause-only : goal.returns-in-Ok-clause-only
unfolding of_bytes
returns-in-Ok-clause-only c =
    λ guid is. ap (λ (bytes : List ℕ). Some (of_bytes bytes))
    (c.to_bytes_le.ensures ∙ guid_only c.args.text.now c.in-Ok.id guid.0 c.in-Ok.ensures.bytes is)

pub returns-in-Err-clause-read : goal.returns-in-Err-clause-read
returns-in-Err-clause-read c =
    guid_none c.args.text.now (λ x e. true≢false (sym (c.in-Err.ensures.ok.1 (x, e))))
