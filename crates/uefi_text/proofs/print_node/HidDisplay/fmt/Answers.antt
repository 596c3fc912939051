use Rattle.std.proofs.Output.{has_written_of_eq}
use Rattle.uefi_text.proofs.Bytes.Printer.{pnp_text}
use Rattle.uefi_text.proofs.print_node.HidDisplay.fmt.Goals as goal

pub returns-clause-writes : goal.returns-clause-writes
returns-clause-writes g c = λ plain ok.
    has_written_of_eq _ _ _ _ _ (pnp_text c.args.self.now.0 c.to_be_bytes.result c.if-hid-ne-PNP.false c.to_be_bytes.ensures) (c.write.ensures.writes plain ok)
