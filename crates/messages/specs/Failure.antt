-- The status that a program ends with for each failure.
use Rattle.std.specs.Prelude.{ℕ}
use Rattle.messages.specs.declared.failure.Failure.{Failure}
use Rattle.messages.specs.declared.failure.Failure.TheVariants as failure

-- the status by which a failure is told
abbrev pub status_of : Failure → ℕ
status_of (failure.Run name fault) = 1
status_of (failure.Words text) = 2
status_of (failure.Read name error) = 3
status_of (failure.Write name error) = 3
status_of (failure.TakenBack text) = 3
status_of failure.Memory = 4
status_of (failure.Refused name reason) = 5
status_of (failure.Busy name) = 7
status_of (failure.Held name) = 7
status_of (failure.Unsettled text) = 8
status_of (failure.Loader name words) = 9
status_of failure.Closed = 141
