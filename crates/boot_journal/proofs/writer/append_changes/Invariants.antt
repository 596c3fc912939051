-- So far the bytes of the first changes are appended.
use Rattle.std.proofs.Common.{◌≡◌, ◌++◌, take}
use Rattle.boot_journal.specs.Bytes.{changes_bytes}
use Rattle.boot_journal.proofs.writer.append_changes.Given as goal

abbrev pub invariant-loop-change : goal.invariant-loop-change
invariant-loop-change l = l.out.items ≡ l.fn.out.items ++ changes_bytes (take l.change-index l.changes)
