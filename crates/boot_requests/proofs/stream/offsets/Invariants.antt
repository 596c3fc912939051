use Rattle.std.proofs.Common.{take}
use Rattle.boot_requests.proofs.EventLists.Streams.{AreOffsets}
use Rattle.boot_requests.proofs.stream.offsets.Given as goal

abbrev pub invariant-loop-frame : goal.invariant-loop-frame
invariant-loop-frame l = AreOffsets (take l.frame-index l.frames) l.places.items l.end
