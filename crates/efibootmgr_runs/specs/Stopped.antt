-- What a run that stops ends with, as `efibootmgr` does.
use Rattle.std.specs.Prelude.{ℕ, Option, Some, None}
use Rattle.messages.specs.declared.failure.Failure.{Failure}
use Rattle.messages.specs.declared.failure.Failure.TheVariants as failure
use Rattle.messages.specs.Failure.{status_of as failure_status}
use Rattle.efibootmgr_runs.specs.declared.planned.Planned.{Planned}
use Rattle.efibootmgr_runs.specs.declared.planned.Planned.TheVariants as plan
use Rattle.efibootmgr_runs.specs.declared.stopped.Step.{Step}
use Rattle.efibootmgr_runs.specs.declared.stopped.Step.TheVariants as step

-- what is to be done when a change is to be made
abbrev pub step_of : Planned → Step
step_of (plan.Delete entry) = step.Delete
step_of (plan.Activate entry) = step.Activate
step_of (plan.Deactivate entry) = step.Activate
step_of plan.Create = step.Create
step_of plan.DeleteOrder = step.DeleteOrder
step_of plan.Order = step.Order
step_of plan.RemoveRepeats = step.RemoveRepeats
step_of plan.DeleteNext = step.DeleteNext
step_of plan.DeleteTimeout = step.DeleteTimeout
step_of (plan.Next entry) = step.Next
step_of (plan.Timeout seconds) = step.Timeout

-- the status that `efibootmgr` ends with if this can't be done
abbrev pub status_of : Step → ℕ
status_of step.List = 1
status_of step.Read = 2
status_of step.Create = 5
status_of step.DeleteOrder = 7
status_of step.Order = 8
status_of step.RemoveRepeats = 9
status_of step.DeleteNext = 10
status_of step.DeleteTimeout = 11
status_of step.Next = 12
status_of step.Timeout = 14
status_of step.Delete = 15
status_of step.Activate = 16
status_of step.CreateTaken = 40

-- the status of a run that this failure stops: that of what was to be done, unless nobody reads what is printed any more
abbrev pub status_at : Step → Failure → ℕ
status_at at failure.Closed = failure_status failure.Closed
status_at at other = status_of at

-- what is told of it: nothing if nobody reads
abbrev pub told_of : Failure → Option Failure
told_of failure.Closed = None
told_of other = Some other
