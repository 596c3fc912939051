use Rattle.std.proofs.Common.{length}
use Rattle.boot_requests.proofs.EventLists.Scripts.{IsReading}
use Rattle.boot_requests.proofs.script.script_events.Given as goal

abbrev pub invariant-loop-places : goal.invariant-loop-places
invariant-loop-places l = IsReading l.text l.rest l.events.items l.places.items l.number

abbrev pub decreases-loop-places : goal.decreases-loop-places
decreases-loop-places l = length l.rest
