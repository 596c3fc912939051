-- Why a record isn't written.
use Rattle.std.proofs.Common.{◌≡◌, ◌≢◌, ℕ, List, refl}
use Rattle.std.specs.List.{AllByRecursion}
use Rattle.change_records.specs.declared.fault.WriteFault.{WriteFault}
use Rattle.change_records.specs.declared.fault.WriteFault.TheVariants as fault
use Rattle.change_records.specs.Fields.{IsShort}
use Rattle.change_records.specs.Record.{RecordParts, record_fields}
use Rattle.bootkeep_c.specs.declared.failure.Failure.TheVariants as failure
use Rattle.bootkeep_c.specs.Refusals.{write_failure}
use Rattle.bootkeep_c.specs.Records.{IsRecordOf, IsTooLong}

-- a field is too long, unless memory was refused
pub too_long : (machine : List ℕ) (time : ℕ) (before after words : List ℕ) (made : RecordParts) (why : WriteFault) →
    IsRecordOf machine time before after words made → (why ≡ fault.TooLong → ¬ AllByRecursion IsShort (record_fields made))
    → write_failure why ≢ failure.Memory → IsTooLong machine time before after words (write_failure why)
too_long machine time before after words made fault.TooLong is long other = (made, is, long refl, refl)
too_long machine time before after words made fault.OutOfMemory is long other = absurd (other refl)
