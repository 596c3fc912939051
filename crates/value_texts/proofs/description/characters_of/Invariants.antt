use Rattle.std.proofs.Common.{◌≡◌}
use Rattle.value_texts.proofs.description.characters_of.Given as goal

abbrev pub invariant-loop-character : goal.invariant-loop-character
invariant-loop-character l = l.characters.items ≡ l.yielded
