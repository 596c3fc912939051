use Rattle.efibootmgr_words.proofs.Reading.{read_more}
use Rattle.efibootmgr_words.proofs.given_words.read_words.Goals as goal

pub loop-word-preserved : goal.loop-word-preserved
loop-word-preserved c =
    read_more c.args.table.now c.args.words.now c.loop-word.word-index c.word-item.result c.as_str.result.now c.loop-word.behind c.in_ok-behind.behind
    c.loop-word.given c.read_word.new.given c.loop-word-test.true c.word-item.is c.as_str.ensures.value c.loop-word.invariant c.in_ok-behind.ensures
