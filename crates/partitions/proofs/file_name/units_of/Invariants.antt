use Rattle.std.specs.Str.Iter.{char_indices_rest, char_indices_offset}
use Rattle.partitions.proofs.Characters.{IsRead}
use Rattle.partitions.proofs.file_name.units_of.Given as goal

abbrev pub invariant-loop-at : goal.invariant-loop-at
invariant-loop-at l = IsRead l.text (char_indices_rest l.at-iterator) l.units.items (char_indices_offset l.at-iterator)
