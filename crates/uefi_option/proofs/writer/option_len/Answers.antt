use Rattle.std.proofs.Common.{arith}
use Rattle.std.proofs.lemmas.Grind.{common_steps}
use Rattle.uefi_option.proofs.Lengths.{length-option_bytes}
use Rattle.uefi_option.proofs.writer.option_len.Goals as goal

pub returns : goal.returns
returns c = grind (arith, common_steps, length-option_bytes c.units_have_two_bytes_each.ensures c.args.option.now)
