use Rattle.std.proofs.Common.{◌++◌, length}
use Rattle.boot_requests.specs.Pieces.{IsMissing}
use Rattle.boot_requests.proofs.Streams.Pieces.{Taken}
use Rattle.boot_requests.proofs.inbox.cut_piece.Given as goal

abbrev pub invariant-loop-rest : goal.invariant-loop-rest
invariant-loop-rest l = record {
  taken : Taken l.fn.held.items (l.fn.held.items ++ l.fn.piece) l.fn.frames.items l.frames.items l.held.items l.rest;
  missing : IsMissing l.held.items l.count;
}

abbrev pub decreases-loop-rest : goal.decreases-loop-rest
decreases-loop-rest l = length l.rest
