use Rattle.std.proofs.Common.{◌≡◌, ◌++◌, flat_map}
use Rattle.std.specs.Char.Escape.{encode_utf16}
use Rattle.value_texts.proofs.description.append_text_units.Given as goal

abbrev pub invariant-loop-character : goal.invariant-loop-character
invariant-loop-character l = l.units.items ≡ l.fn.units.items ++ flat_map encode_utf16 l.yielded
