use Rattle.bootkeep_c.specs.Stores.{IsStored, IsUnstored}
use Rattle.bootkeep_c.proofs.Answering.{answers}
use Rattle.bootkeep_c.proofs.store.bootkeep_store_vars.Goals as goal

pub returns : goal.returns
returns c =
    let asked = c.args in
    answers (λ bytes. bytes.items) (IsStored asked.file.now) (IsUnstored asked.file.now) c.kept_in-made.result c.answer.result
    asked.out.now c.answer.new.out asked.len.now c.answer.new.len
    asked.refusal.now c.answer.new.refusal c.kept_in-made.ensures.made c.kept_in-made.ensures.fault c.answer.ensures.given c.answer.ensures.told
