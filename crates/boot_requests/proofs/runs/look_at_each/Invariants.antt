use Rattle.std.proofs.Common.{take}
use Rattle.std.specs.List.{AllByRecursion}
use Rattle.boot_requests.specs.Seen.{IsEvent}
use Rattle.boot_requests.proofs.runs.look_at_each.Given as goal

abbrev pub invariant-loop-event : goal.invariant-loop-event
invariant-loop-event l = AllByRecursion IsEvent (take l.event-index l.events)
