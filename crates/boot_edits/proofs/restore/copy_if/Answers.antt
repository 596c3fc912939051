use Rattle.std.proofs.Common.{sym, ◌∙◌, refl, inl, inr}
use Rattle.std.proofs.lemmas.Bool.{false≢true}
use Rattle.boot_edits.proofs.restore.copy_if.Goals as goal

pub returns-then-not-is_so : goal.returns-then-not-is_so
returns-then-not-is_so c = inl (λ so. false≢true (sym c.if-not-is_so.true ∙ c.is_so.ensures.1 so), refl)

pub returns : goal.returns
returns c = inr (λ other. other (c.is_so.ensures.0 c.if-not-is_so.false), c.in_ok-copy_variable.ensures)
