use Rattle.std.proofs.Common.{ap, ◌∙◌}
use Rattle.uuid.specs.Text.{hyphenated_text, lower}
use Rattle.uefi_text.proofs.Bytes.Guids.{guid_printed}
use Rattle.uefi_text.proofs.guid.hyphenated.Goals as goal

pub returns : goal.returns
returns c =
    c.encode_lower.ensures.text ∙ ap (hyphenated_text lower) (c.hyphenated.ensures ∙ c.from_bytes_le.ensures)
    ∙ guid_printed c.args.guid.now.0 c.field.ensures.valid
