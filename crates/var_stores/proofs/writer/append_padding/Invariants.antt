use Rattle.std.proofs.Common.{◌≡◌, ◌-◌, ◌++◌}
use Rattle.std.proofs.Math.ListN.{replicate}
use Rattle.var_stores.proofs.writer.append_padding.Given as goal

-- what is there, with what is still to come
abbrev pub invariant-loop : goal.invariant-loop
invariant-loop l = l.bytes.items ++ replicate (l.end - l.counter) 0xFF ≡ l.fn.bytes.items ++ replicate l.end 0xFF
