use Rattle.std.proofs.Output.{has_written_of_eq}
use Rattle.uefi_path.specs.Parts.{name_bytes}
use Rattle.uefi_text.proofs.Bytes.Printer.{generic_text, name_bytes-some}
use Rattle.uefi_text.proofs.print_node.name_digits.Goals as goal

pub returns : goal.returns
returns g c = λ plain ok.
    has_written_of_eq _ _ _ _ _ (generic_text 4 4 (name_bytes c.args.units.now) (name_bytes-some c.args.units.now)) (c.write.ensures.writes plain ok)
