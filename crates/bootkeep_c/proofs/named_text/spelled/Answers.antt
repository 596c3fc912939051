use Rattle.std.proofs.lemmas.Result.{err_from_is_err_and}
use Rattle.bootkeep_c.proofs.NamedTexts.{named_text_failed}
use Rattle.bootkeep_c.proofs.named_text.spelled.Goals as goal

pub returns-in_err-path-clause-fault : goal.returns-in_err-path-clause-fault
returns-in_err-path-clause-fault c =
    let p = err_from_is_err_and c.from_residual-in_err-path.result c.from_residual-in_err-path.ensures.1 in
    let text = c.in_ok-text.ensures.found in
    let only = rw text.0 at c.in_err-path.ensures.only in
    rw p.1 (named_text_failed c.args.text.now c.in_err-path.field-0.0 p.0 text.1 p.2 only)
