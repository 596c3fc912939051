use Rattle.std.proofs.Common.{◌≡◌, take}
use Rattle.boot_notes.specs.Notes.{below}
use Rattle.boot_notes.proofs.notes.below.Given as goal

abbrev pub invariant-loop-kept : goal.invariant-loop-kept
invariant-loop-kept l = l.lower.items ≡ below l.number (take l.kept-index l.digests)
