use Rattle.std.proofs.Common.{◌≡◌, drop, map}
use Rattle.std.specs.String.{string_bytes}
use Rattle.wanted_changes.specs.LeftOut.{without_names}
use Rattle.wanted_changes.proofs.left_out.leave_out.Given as goal

-- what is left to be taken out leads to the same
abbrev pub invariant-loop-name : goal.invariant-loop-name
invariant-loop-name l = without_names l.vars (map string_bytes (drop l.name-index l.names)) ≡ without_names l.fn.vars (map string_bytes l.names)
