use Rattle.std.proofs.Common.{◌≡◌, ◌++◌, length}
use Rattle.std.specs.String.{string_bytes}
use Rattle.value_texts.specs.Json.{units_inside}
use Rattle.value_texts.proofs.json_text.append_units_inside.Given as goal

abbrev pub invariant-loop-unit : goal.invariant-loop-unit
invariant-loop-unit l = string_bytes l.json ++ units_inside l.rest ≡ string_bytes l.initial.json ++ units_inside l.initial.rest

abbrev pub decreases-loop-unit : goal.decreases-loop-unit
decreases-loop-unit l = length l.rest
