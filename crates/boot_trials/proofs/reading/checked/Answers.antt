use Rattle.std.proofs.Common.{sym, ◌∙◌}
use Rattle.std.proofs.lemmas.Bool.{false≢true}
use Rattle.boot_trials.proofs.Files.{no_other}
use Rattle.boot_trials.proofs.reading.checked.Goals as goal

pub returns-else-eq-clause-refused : goal.returns-else-eq-clause-refused
returns-else-eq-clause-refused c other =
    no_other c.args.vars.now c.args.trial c.look.ensures c.requires
    (λ e. false≢true (sym c.if-eq.false ∙ c.eq.ensures.equal.1 (c.in_ok-own.ensures ∙ sym e)))
