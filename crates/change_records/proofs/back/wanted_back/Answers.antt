-- A BootNext that may have been used isn't wanted.
use Rattle.std.proofs.Common.{inl, inr, sym, ap, ◌∙◌}
use Rattle.std.proofs.lemmas.Bool.{false≢true}
use Rattle.std.specs.FinMap.{remove}
use Rattle.uefi_vars.specs.Name.{next_text}
use Rattle.uefi_vars.specs.Vars.{Variables}
use Rattle.change_records.proofs.back.wanted_back.Goals as goal

pub returns-then-is_next_gone : goal.returns-then-is_next_gone
returns-then-is_next_gone c = inl (
  c.is_next_gone.ensures.0 c.if-is_next_gone.true,
  c.without_next.ensures ∙ ap (λ (v : Variables). remove v next_text) c.in_ok-before.ensures.equal,
)

pub returns-else-is_next_gone : goal.returns-else-is_next_gone
returns-else-is_next_gone c = inr (
  (λ gone. false≢true (sym c.if-is_next_gone.false ∙ c.is_next_gone.ensures.1 gone)),
  c.in_ok-before.ensures.equal,
)
