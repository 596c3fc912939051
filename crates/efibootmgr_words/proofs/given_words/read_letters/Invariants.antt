use Rattle.std.specs.Str.Iter.{chars_rest}
use Rattle.efibootmgr_words.proofs.Letters.{IsReadTo}
use Rattle.efibootmgr_words.proofs.given_words.read_letters.Given as goal

abbrev pub invariant-loop-letter : goal.invariant-loop-letter
invariant-loop-letter l = IsReadTo l.table l.letters (chars_rest l.rest) l.fn.given l.given
