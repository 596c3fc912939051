use Rattle.uefi_text.proofs.Bytes.Digits.{AreWritten}
use Rattle.uefi_text.proofs.print_parts.write_digits.Given as goal

abbrev pub invariant-loop-rest : goal.invariant-loop-rest
invariant-loop-rest l = AreWritten l.number l.start l.rest l.text

abbrev pub decreases-loop-rest : goal.decreases-loop-rest
decreases-loop-rest l = l.start
