use Rattle.std.proofs.Common.{◌≡◌, ◌++◌, length, drop}
use Rattle.std.specs.List.{flat_map}
use Rattle.std.specs.Char.Escape.{encode_utf16}
use Rattle.std.specs.Str.{chars}
use Rattle.bootkeep_c.specs.Making.{text_units}
use Rattle.bootkeep_c.proofs.making.units_of.Given as goal

-- the units so far, with those of the characters that are still to come
abbrev pub invariant-loop-character : goal.invariant-loop-character
invariant-loop-character l =
    l.units.items ++ flat_map encode_utf16 (drop (length l.yielded) (chars l.text)) ≡ text_units l.text
