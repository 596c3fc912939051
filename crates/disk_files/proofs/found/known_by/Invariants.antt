use Rattle.std.proofs.Common.{take}
use Rattle.disk_files.specs.Search.{AreKnown}
use Rattle.disk_files.proofs.found.known_by.Given as goal

abbrev pub invariant-loop-next : goal.invariant-loop-next
invariant-loop-next l = AreKnown l.id (take l.next-index l.partitions) l.known
