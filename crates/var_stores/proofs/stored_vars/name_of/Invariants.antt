use Rattle.std.proofs.Common.{◌≡◌, ◌++◌, length}
use Rattle.std.specs.Option.{option_map}
use Rattle.std.specs.String.{string_bytes}
use Rattle.var_stores.specs.Present.{name_in}
use Rattle.var_stores.proofs.stored_vars.name_of.Given as goal

-- the name so far, with what is still to come
abbrev pub invariant-loop-low : goal.invariant-loop-low
invariant-loop-low l = option_map (λ name. string_bytes l.name ++ name) (name_in l.rest) ≡ name_in l.stored

abbrev pub decreases-loop-low : goal.decreases-loop-low
decreases-loop-low l = length l.rest
