-- Which records count among those of a machine.
use Rattle.std.specs.Prelude.{Bool, true, false, Result, Ok, Err}
use Rattle.messages.specs.declared.failure.Failure.{Failure}
use Rattle.messages.specs.declared.failure.Failure.TheVariants as failure
use Rattle.change_records.specs.declared.owner.Owner.{Owner}
use Rattle.change_records.specs.declared.owner.Owner.TheVariants.{Own, Other, Unknown}

-- ---- for private functions

-- whether a record counts among the machine's own, of which this was told: one that can't be read doesn't
abbrev pub counted : Result Owner Failure → Result Bool Failure
counted (Ok Own) = Ok true
counted (Ok Other) = Ok false
counted (Ok Unknown) = Ok false
counted (Err failure.Memory) = Err failure.Memory
counted (Err _) = Ok false
