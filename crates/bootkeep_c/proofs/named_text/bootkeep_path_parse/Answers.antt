use Rattle.bootkeep_c.specs.NamedTexts.{IsPathOfText, IsNamedTextFailure}
use Rattle.bootkeep_c.proofs.Answering.{answers}
use Rattle.bootkeep_c.proofs.named_text.bootkeep_path_parse.Goals as goal

pub returns : goal.returns
returns c =
    let given = c.args in
    answers (λ bytes. bytes.items) (IsPathOfText given.text.now) (IsNamedTextFailure given.text.now)
    c.spelled-made.result c.answer.result given.out.now c.answer.new.out given.len.now c.answer.new.len given.refusal.now c.answer.new.refusal
    c.spelled-made.ensures.made c.spelled-made.ensures.fault c.answer.ensures.given c.answer.ensures.told
