use Rattle.bootkeep_c.specs.Stores.{IsFileWith, IsNoFileWith}
use Rattle.bootkeep_c.proofs.Answering.{answers}
use Rattle.bootkeep_c.proofs.store.bootkeep_store_with.Goals as goal

pub returns : goal.returns
returns c =
    let asked = c.args in
    answers (λ bytes. bytes.items) (IsFileWith asked.file.now asked.set.now) (IsNoFileWith asked.file.now asked.set.now)
    c.file_with-made.result c.answer.result asked.out.now c.answer.new.out asked.len.now c.answer.new.len
    asked.refusal.now c.answer.new.refusal c.file_with-made.ensures.made c.file_with-made.ensures.fault c.answer.ensures.given c.answer.ensures.told
