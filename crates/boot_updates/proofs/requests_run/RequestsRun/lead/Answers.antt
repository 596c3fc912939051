use Rattle.std.proofs.Common.{ℕ, List, map, refl, sym, ap, subst, ◌∙◌}
use Rattle.std.specs.String.{string_bytes}
use Rattle.uefi_vars.specs.Vars.{Variables}
use Rattle.boot_requests.specs.declared.answer.Answer.{Answer}
use Rattle.boot_journal.specs.Attributes.{data_of}
use Rattle.wanted_changes.specs.LeftOut.{without_names}
use Rattle.boot_updates.specs.Guarded.{AreMet}
use Rattle.boot_updates.specs.Told.{AreToldBy}
use Rattle.boot_updates.proofs.Guards.{none_is, some_is_not, guarded_so}
use Rattle.boot_updates.proofs.requests_run.RequestsRun.lead.Goals as goal

-- something isn't as it is expected

pub returns-in-Some-clause-done : goal.returns-in-Some-clause-done
returns-in-Some-clause-done c =
    let names = map string_bytes c.args.self.now.left_out.now in
    let vars = without_names (data_of c.args.vars.now) names in
    let journal = c.args.self.now.journal in
    let preconditions = c.args.self.now.preconditions.now in
    let told = c.not_run.result in
    let left = c.leave_out.ensures ∙ ap (λ (v : Variables). without_names v names) (c.in_ok-known.ensures.equal ∙ c.in_ok-from.ensures.from) in (
      c.not_run.ensures.journal,
      λ m keeps. c.not_run.ensures.first ∙ c.in_ok-from.ensures.first m keeps,
      guarded_so _ _ c.args.vars.now c.in_ok-kept.kept told.answers.items told.unmet c.in-Some.unmet c.not_run.ensures.unmet
          (λ (all : AreMet journal told.first vars preconditions). some_is_not c.in_ok-unmet.field-0 c.in-Some.unmet c.in-Some.is (c.in_ok-unmet.ensures.1
          (subst (λ (v : Variables). AreMet journal c.in_ok-from.field-0.first v preconditions) (sym left)
          (subst (λ (n : ℕ). AreMet journal n vars preconditions) c.not_run.ensures.first all))))
          c.in_ok-kept.ensures.equal c.not_run.ensures.none,
    )

pub returns-in-Some-clause-to : goal.returns-in-Some-clause-to
returns-in-Some-clause-to c =
    c.in_ok-to.ensures.equal ∙ c.in_ok-from.ensures.from ∙ ap data_of (sym c.in_ok-kept.ensures.equal)

-- all is as it is expected

pub returns-clause-done : goal.returns-clause-done
returns-clause-done c =
    let names = map string_bytes c.args.self.now.left_out.now in
    let noted = c.in_ok-noted.noted in
    let left = c.leave_out.ensures ∙ ap (λ (v : Variables). without_names v names) (c.in_ok-known.ensures.equal ∙ c.in_ok-from.ensures.from) in
    let met = subst (λ (v : Variables). AreMet c.args.self.now.journal c.in_ok-from.field-0.first v c.args.self.now.preconditions.now) left
    (c.in_ok-unmet.ensures.0 (none_is c.in_ok-unmet.field-0 c.in_default.not-Some)) in
    let told = subst (λ (a : List Answer). AreToldBy noted.before c.in_ok-from.field-0.first c.args.self.now.requests.events.now a noted.same.items)
    c.deref.ensures.value c.in_ok-noted.ensures in (
      refl,
      c.in_ok-from.ensures.first,
      (met, (c.in_ok-from.ensures.answered, told)),
    )
