use Rattle.std.proofs.Output.{has_written_of_eq}
use Rattle.uefi_text.proofs.Bytes.Hexadecimal.{address_cells}
use Rattle.uefi_text.proofs.print_parts.AddressDisplay.fmt.Goals as goal

pub returns-clause-writes : goal.returns-clause-writes
returns-clause-writes g c = λ plain ok.
    has_written_of_eq _ _ _ _ _ (address_cells c.args.self.now.0.now c.field.ensures.valid.0) (c.write.ensures.writes plain ok)
