-- So far the first changes are made.
use Rattle.std.proofs.Common.{◌≡◌, take}
use Rattle.boot_journal.specs.Changes.{made}
use Rattle.machine_storage.proofs.standing.after_changes.Given as goal

abbrev pub invariant-loop-change : goal.invariant-loop-change
invariant-loop-change l = l.after ≡ made (take l.change-index l.changes) l.vars
