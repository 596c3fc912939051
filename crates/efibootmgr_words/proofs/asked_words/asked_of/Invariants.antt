use Rattle.efibootmgr_words.proofs.Taking.{IsTakenTo}
use Rattle.efibootmgr_words.proofs.asked_words.asked_of.Given as goal

abbrev pub invariant-loop-option : goal.invariant-loop-option
invariant-loop-option l = IsTakenTo l.fn.given l.option-index l.asked
