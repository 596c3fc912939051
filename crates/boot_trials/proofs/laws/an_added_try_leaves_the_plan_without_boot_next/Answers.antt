use Rattle.std.proofs.Common.{◌≡◌, ℕ, None, sym, ap, ◌∙◌, subst}
use Rattle.uefi_vars.specs.Order.{HasOrder, IsEntryNumber}
use Rattle.uefi_vars.specs.Plan.{IsPlan}
use Rattle.uefi_vars.specs.Vars.{Variables, entry_of}
use Rattle.boot_edits.specs.declared.answer.EditAnswer.{EditAnswer}
use Rattle.boot_edits.specs.declared.answer.EditAnswer.TheVariants.{Added}
use Rattle.boot_journal.specs.Attributes.{data_of}
use Rattle.boot_trials.specs.Adding.{IsOfEntry}
use Rattle.boot_trials.proofs.AddedPlans.{same_plan}
use Rattle.boot_trials.proofs.laws.an_added_try_leaves_the_plan_without_boot_next.Goals as goal

pub returns : goal.returns
returns c addition start from to begun order plan is fits last inert has planned =
    let set = is.added.set in
    let kept_set : data_of is.between ≡ set = ap data_of is.added.is ∙ c.attributes_and_data_are_what_is_kept.ensures.set from set in
    let entry : begun.trial.entry ≡ is.entry = ap (λ t. t.entry) is.tried.new.is in
    let number : (n : ℕ) → is.answer ≡ Added n → IsEntryNumber n =
    λ n at. subst IsEntryNumber (entry ∙ subst (λ (a : EditAnswer). IsOfEntry a is.entry) at is.names) fits in
    let found = same_plan (data_of from) set addition order plan last inert (c.variables_have_one_order.ensures (data_of from)) has planned
    is.answer is.added.edited number in
    let kept = c.a_try_leaves_the_plan_without_boot_next.ensures is.entry start is.between to begun.trial found.order plan is.tried
    (subst (λ (v : Variables). HasOrder v found.order) (sym kept_set) found.has)
    (subst (λ (v : Variables). IsPlan (entry_of v) found.order None plan) (sym kept_set) found.planned) in
    (found.order, kept.0, kept.1)
