-- What is kept of a machine, as a store.
use Rattle.boot_journal.specs.declared.recorded.Kept.{Kept}
use Rattle.boot_journal.specs.Store.{Store}

abbrev pub store_of : Kept → Store
store_of kept = record { variables = kept.vars; journal = kept.journal }
