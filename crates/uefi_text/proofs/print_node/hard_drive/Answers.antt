use Rattle.std.proofs.Common.{ℕ, List, length, take, ap, sym, ◌∙◌, arith}
use Rattle.std.proofs.Output.{has_written_of_eq}
use Rattle.uefi_text.proofs.Bytes.Printer.{first_four, mbr_segment, other_segment}
use Rattle.uefi_text.proofs.print_node.hard_drive.Goals as goal

pub returns-then-is_mbr : goal.returns-then-is_mbr
returns-then-is_mbr g c = λ plain ok.
    let signature = c.signature-signature.ensures.bytes in
    let long = ap length signature ∙ c.signature-signature.ensures.valid.signature.0 in
    let four = first_four c.signature-signature.result.now (omega (arith, long)) in
    has_written_of_eq _ _ _ _ _
    (mbr_segment c.args.node.now _ (sym c.is_gpt.ensures ∙ c.if-is_gpt.false)
    (sym c.is_mbr.ensures ∙ c.if-is_mbr.true) (four ∙ ap (λ (bytes : List ℕ). take 4 bytes) signature))
    (c.mbr.ensures plain ok)

pub returns : goal.returns
returns g c = λ plain ok.
    has_written_of_eq _ _ _ _ _
    (other_segment c.args.node.now (sym c.is_gpt.ensures ∙ c.if-is_gpt.false) (sym c.is_mbr.ensures ∙ c.if-is_mbr.false))
    (c.hard_drive_fields.ensures plain ok)
