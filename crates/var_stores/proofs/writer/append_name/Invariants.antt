use Rattle.std.proofs.Common.{◌≡◌, ◌++◌, drop}
use Rattle.var_stores.specs.Present.{stored_name}
use Rattle.var_stores.proofs.writer.append_name.Given as goal

-- what is there, with what is still to come
abbrev pub invariant-loop-byte : goal.invariant-loop-byte
invariant-loop-byte l = l.bytes.items ++ stored_name (drop l.byte-index l.byte-items) ≡ l.fn.bytes.items ++ stored_name l.name
