-- So far it is the next number after the first answers.
use Rattle.std.proofs.Common.{◌≡◌, take, fold}
use Rattle.boot_updates.specs.NextNumber.{next_after}
use Rattle.boot_updates.proofs.replies.next_after_all.Given as goal

abbrev pub invariant-loop-answer : goal.invariant-loop-answer
invariant-loop-answer l = l.next ≡ fold next_after l.before (take l.answer-index l.answers)
