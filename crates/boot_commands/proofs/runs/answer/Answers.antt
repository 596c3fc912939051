use Rattle.std.proofs.Common.{ℕ, List, subst, ◌∙◌}
use Rattle.std.proofs.lemmas.Result.{err_from_is_err_and}
use Rattle.boot_commands.specs.Source.{AppendsFront}
use Rattle.boot_commands.proofs.runs.answer.Goals as goal

pub returns-in_err-write_all-clause-answer : goal.returns-in_err-write_all-clause-answer
returns-in_err-write_all-clause-answer g c =
    let made = c.from_residual-in_err-write_all in
    let p = err_from_is_err_and made.result made.ensures.1 in
    let wrote = c.in_err-write_all.ensures in
    let done = c.in_ok-vars.ensures.done in
    let old = g.W.Sink.contents c.args.writer.now in
    let new = g.W.Sink.contents c.write_all.new.writer in
    rw (p.1, p.2, wrote.fault)
    (c.in_ok-vars.vars, done.0, done.1, subst (λ (bytes : List ℕ). AppendsFront old new bytes) (c.as_bytes.ensures.value ∙ done.2) wrote.front)
