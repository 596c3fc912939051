use Rattle.std.proofs.Output.{has_written_of_eq}
use Rattle.uefi_text.proofs.Bytes.Hexadecimal.{eui_cells}
use Rattle.uefi_text.proofs.print_parts.EuiDisplay.fmt.Goals as goal

pub returns-clause-writes : goal.returns-clause-writes
returns-clause-writes g c = λ plain ok.
    has_written_of_eq _ _ _ _ _ (eui_cells c.args.self.now.0.now c.field.ensures.valid.0) (c.write.ensures.writes plain ok)
