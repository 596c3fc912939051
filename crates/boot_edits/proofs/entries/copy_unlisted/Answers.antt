use Rattle.std.proofs.Common.{sym, ◌∙◌, refl, inl, inr}
use Rattle.std.proofs.lemmas.Bool.{false≢true}
use Rattle.boot_edits.proofs.entries.copy_unlisted.Goals as goal

pub returns-then-is_listed : goal.returns-then-is_listed
returns-then-is_listed c = λ numbers tells. inl ((c.is_listed.ensures numbers tells).0 c.if-is_listed.true, refl)

pub returns : goal.returns
returns c = λ numbers tells.
    inr (λ named. false≢true (sym c.if-is_listed.false ∙ (c.is_listed.ensures numbers tells).1 named), c.in_ok-copy_variable.ensures)
