use Rattle.std.proofs.Common.{◌≡◌, ⊎_elim, inl, Some, sym, ◌∙◌}
use Rattle.var_stores.specs.Damage.{first_written}
use Rattle.var_stores.proofs.Counts.{none_written, all_erased}
use Rattle.var_stores.proofs.store.VariableStore.damage.Goals as goal

pub returns-in_err-erased-clause-none : goal.returns-in_err-erased-clause-none
returns-in_err-erased-clause-none c = (
  λ none. inl (all_erased c.args.self.now.free.now (sym c.first_written.ensures ∙ c.in_err-erased.was)),
  λ unwritten. c.from_residual.ensures,
)

pub returns-clause-none : goal.returns-clause-none
returns-clause-none c = (
  λ none. cc,
  λ unwritten. ⊎_elim
      (λ erased.
      let none = none_written c.args.self.now.free.now erased in
      let some : first_written c.args.self.now.free.now ≡ Some c.in_ok-erased.erased = sym c.first_written.ensures ∙ c.in_ok-erased.was in
      cc)
      (λ begun. let has = c.has_begun.ensures.1 begun in cc)
      unwritten,
)
