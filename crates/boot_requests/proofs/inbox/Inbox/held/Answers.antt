use Rattle.std.proofs.Common.{arith}
use Rattle.boot_requests.proofs.Streams.Feeding.{held_len}
use Rattle.boot_requests.proofs.inbox.Inbox.held.Goals as goal

pub returns-clause-bound : goal.returns-clause-bound
returns-clause-bound c = omega (arith, held_len c.self.inside.held.items c.self.inside.missing c.self.inside.fault c.self.invariant)
