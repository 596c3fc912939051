use Rattle.std.proofs.Common.{ap, ◌∙◌, arith}
use Rattle.std.specs.Int.{w32, from_le_bytes}
use Rattle.uefi_text.proofs.Bytes.Printer.{first_four}
use Rattle.efibootmgr_words.proofs.efivar_nodes.mbr_number.Goals as goal

pub returns : goal.returns
returns c =
    let four = first_four c.args.signature.now (omega (arith, c.field.ensures.valid.0)) in
    c.from_le_bytes.ensures ∙ ap (λ bytes. from_le_bytes w32 bytes) four
