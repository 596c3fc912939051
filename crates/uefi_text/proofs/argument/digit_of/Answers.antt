use Rattle.std.proofs.Common.{arith, refl}
use Rattle.uefi_text.specs.declared.argument.TheConstants.{DIGIT_VALUES}
use Rattle.uefi_text.proofs.Read.Digits.{value_at}
use Rattle.uefi_text.proofs.argument.digit_of.Goals as goal

pub returns : goal.returns
returns c = value_at DIGIT_VALUES refl c.args.byte (omega arith)
