use Rattle.std.proofs.Common.{List, ℕ, arith, Bor}
use Rattle.std.proofs.Output.{has_written_of_eq}
use Rattle.uefi_text.proofs.Bytes.Hexadecimal.{hex_text-whole}
use Rattle.uefi_text.proofs.print_parts.FieldsDisplay.fmt.Goals as goal

pub returns-clause-writes : goal.returns-clause-writes
returns-clause-writes g c = λ plain ok.
    has_written_of_eq _ _ _ _ _ (hex_text-whole (λ (field : Bor (List ℕ)). field.now) c.args.self.now.0.now
    c.loop-field.field-index (omega arith)) (c.loop-field.invariant plain)
