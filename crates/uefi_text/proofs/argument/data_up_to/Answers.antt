use Rattle.std.proofs.Common.{arith}
use Rattle.uefi_text.proofs.Read.Hex.{data_long}
use Rattle.uefi_text.proofs.argument.data_up_to.Goals as goal

pub returns-then-digits-most-clause-value : goal.returns-then-digits-most-clause-value
returns-then-digits-most-clause-value c = rw c.in-Some.is (data_long c.args.most c.in-Some.digits.now (omega arith))
