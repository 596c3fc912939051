use Rattle.std.proofs.Common.{map}
use Rattle.std.specs.String.{string_bytes}
use Rattle.place_edits.specs.Brought.{IsHeld}
use Rattle.place_edits.proofs.brought.keep_left_out.Given as goal

-- so far, too, only variables of these names are as they are now
abbrev pub invariant-loop-name : goal.invariant-loop-name
invariant-loop-name l = IsHeld (map string_bytes l.left_out) l.vars l.fn.wanted l.wanted
