-- For the private fault of a store's records.
use Rattle.std.specs.Prelude.{ℕ, List}
use Rattle.var_stores.specs.declared.record.RecordsFault.{RecordsFault}
use Rattle.var_stores.specs.declared.record.RecordsFault.TheVariants as fault
use Rattle.var_stores.specs.Record.{HasCutRecord}

-- the fault is of these bytes, unless it is out of memory
abbrev pub IsFaultOf : List ℕ → RecordsFault → Type 0
IsFaultOf bytes (fault.Cut place) = HasCutRecord bytes place
IsFaultOf bytes fault.OutOfMemory = Unit {0}
