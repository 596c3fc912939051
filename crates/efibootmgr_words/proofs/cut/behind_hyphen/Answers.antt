use Rattle.std.proofs.Common.{arith}
use Rattle.std.proofs.lemmas.Str.Pattern.{strip_prefix_char}
use Rattle.efibootmgr_words.proofs.Cuts.{hyphen_stripped}
use Rattle.efibootmgr_words.proofs.cut.behind_hyphen.Goals as goal

pub returns : goal.returns
returns c =
    hyphen_stripped c.args.text.now c.strip_prefix.result
    (strip_prefix_char 45 c.args.text.now c.strip_prefix.result c.strip_prefix.ensures.cases (omega arith))
