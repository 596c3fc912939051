use Rattle.std.proofs.Common.{arith, rules}
use Rattle.std.specs.Int.{w16, to_le_bytes}
use Rattle.std.proofs.Output.{has_written_append, has_written_of_eq}
use Rattle.uefi_text.proofs.Bytes.Hexadecimal.{hex_text-behind}
use Rattle.uefi_text.proofs.print_parts.NameDigitsDisplay.fmt.Goals as goal

pub returns-clause-writes : goal.returns-clause-writes
returns-clause-writes g c = λ plain ok.
    has_written_of_eq _ _ _ _ _ (hex_text-behind (to_le_bytes w16) c.args.self.now.0.now (to_le_bytes w16 0) c.loop-unit.unit-index (omega arith))
    (has_written_append _ _ _ _ _ _ (c.loop-unit.invariant plain) (search rules))
