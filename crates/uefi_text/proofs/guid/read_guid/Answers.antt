use Rattle.std.proofs.Common.{ℕ, List, sym, subst}
use Rattle.uefi_text.specs.Guid.{IsGuid}
use Rattle.uefi_text.proofs.guid.read_guid.Goals as goal

pub returns-clause-only : goal.returns-clause-only
returns-clause-only c =
    λ guid is. c.guid_of.ensures.only guid (subst (λ (text : List ℕ). IsGuid text guid.0) (sym c.as_bytes.ensures.value) is)
