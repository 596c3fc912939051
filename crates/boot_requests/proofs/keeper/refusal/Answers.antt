use Rattle.std.proofs.Common.{refl, sym, ◌∙◌}
use Rattle.std.proofs.lemmas.Bool.{false≢true}
use Rattle.boot_requests.proofs.keeper.refusal.Goals as goal

pub returns : goal.returns
returns c = (λ e. false≢true (sym c.if-is_memory.false ∙ c.is_memory.ensures.1 e), refl)
