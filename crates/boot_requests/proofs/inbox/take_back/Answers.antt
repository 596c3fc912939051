use Rattle.std.proofs.Common.{arith}
use Rattle.boot_requests.proofs.Streams.Pieces.{back_to_first, back_to_held}
use Rattle.boot_requests.proofs.inbox.take_back.Goals.{then-len-frames_len+in-Some, then-len-frames_len+in_default, else-len-frames_len}
use Rattle.boot_requests.proofs.inbox.take_back.Goals as goal

pub returns : goal.returns
returns c = λ before old h a b.
    elim c.if-len-frames_len.branch [
      | then-len-frames_len+in-Some w ↦
          let back =
          back_to_first before c.args.held.now.items w.in-Some.first old c.args.frames.now.items c.truncate.new.self.items w.pop.new.self.items c.args.held_len
          c.args.frames_len h a b c.truncate.ensures.items w.in-Some.ensures.items
          (omega arith) in
          (cc, cc)
      | then-len-frames_len+in_default w ↦ absurd (omega (arith, w.in_default.ensures.cases.0))
      | else-len-frames_len w ↦
          let back =
          back_to_held before c.args.held.now.items old c.args.frames.now.items c.truncate.new.self.items c.args.held_len c.args.frames_len h a b
          c.truncate.ensures.items
          (omega arith) in
          (cc, cc)
    ]
