use Rattle.std.proofs.Common.{◌≡◌, ◌++◌, length}
use Rattle.std.specs.String.{string_bytes}
use Rattle.efibootmgr_words.specs.Units.{units_text}
use Rattle.efibootmgr_words.proofs.units.append_units.Given as goal

abbrev pub invariant-loop-first : goal.invariant-loop-first
invariant-loop-first l =
    string_bytes l.text ++ units_text l.rest ≡ string_bytes l.fn.text ++ units_text l.fn.units

abbrev pub decreases-loop-first : goal.decreases-loop-first
decreases-loop-first l = length l.rest
