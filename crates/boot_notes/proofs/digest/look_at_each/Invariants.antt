use Rattle.std.proofs.Common.{take}
use Rattle.std.specs.List.{AllByRecursion}
use Rattle.boot_notes.specs.Digest.{IsFrameDigest}
use Rattle.boot_notes.proofs.digest.look_at_each.Given as goal

abbrev pub invariant-loop-kept : goal.invariant-loop-kept
invariant-loop-kept l = AllByRecursion IsFrameDigest (take l.kept-index l.digests)
