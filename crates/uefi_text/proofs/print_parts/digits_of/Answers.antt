use Rattle.std.proofs.Common.{◌∙◌, arith}
use Rattle.uefi_text.proofs.Bytes.Octets.{recursion_from_bytes}
use Rattle.uefi_text.proofs.Bytes.Hexadecimal.{hex_encoded}
use Rattle.uefi_text.proofs.print_parts.digits_of.Goals as goal

pub returns-in-Ok-from_utf8 : goal.returns-in-Ok-from_utf8
returns-in-Ok-from_utf8 c =
    c.in-Ok-from_utf8.ensures.cases.0 ∙ c.in-Ok.ensures.written
    ∙ hex_encoded c.args.bytes.now (recursion_from_bytes c.args.bytes.now (λ i. omega (arith, c.type_inv.bytes i)))
