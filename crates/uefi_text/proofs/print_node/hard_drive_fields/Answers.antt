use Rattle.std.proofs.Common.{ap, ◌∙◌, arith}
use Rattle.std.specs.Int.{w32, w64, to_le_bytes}
use Rattle.std.proofs.Output.{has_written_of_eq}
use Rattle.uefi_text.proofs.Bytes.Printer.{drive_text, two_bytes}
use Rattle.uefi_text.proofs.print_node.hard_drive_fields.Goals as goal

pub returns : goal.returns
returns g c = λ plain ok.
    has_written_of_eq _ _ _ _ _
    (drive_text c.args.node.now _ _ _ _ _ (c.to_le_bytes-partition.ensures ∙ ap (to_le_bytes w32) c.partition.ensures.value)
    (c.to_le_bytes-start.ensures ∙ ap (to_le_bytes w64) c.start.ensures.value)
    (c.to_le_bytes-size.ensures ∙ ap (to_le_bytes w64) c.size.ensures.value) c.signature.ensures.bytes
    (two_bytes c.format.result c.signature_kind.result _ _ c.format.ensures.value c.signature_kind.ensures.value (omega arith) (omega arith)))
    (c.write.ensures.writes plain ok)
