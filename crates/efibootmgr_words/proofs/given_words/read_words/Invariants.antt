use Rattle.efibootmgr_words.proofs.Reading.{IsReadSo}
use Rattle.efibootmgr_words.proofs.given_words.read_words.Given as goal

abbrev pub invariant-loop-word : goal.invariant-loop-word
invariant-loop-word l = IsReadSo l.table l.words l.word-index l.behind l.given
