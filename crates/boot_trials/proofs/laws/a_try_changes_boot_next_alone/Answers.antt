use Rattle.std.proofs.Common.{◌≡◌, sym, ap, ◌∙◌, subst}
use Rattle.uefi_vars.specs.Vars.{Variables}
use Rattle.boot_journal.specs.Attributes.{data_of}
use Rattle.boot_trials.specs.Run.{DifferInNext}
use Rattle.boot_trials.proofs.laws.a_try_changes_boot_next_alone.Goals as goal

pub returns : goal.returns
returns c entry start from to trial is =
    let set = is.next.set in
    let same : data_of to ≡ set = ap data_of is.next.is ∙ c.attributes_and_data_are_what_is_kept.ensures.set from set in
    let becomes = is.next.edited.1 in
    subst (λ (v : Variables). DifferInNext (data_of from) v) (sym same)
    (record { entries = becomes.entries; order = becomes.order; others = becomes.others })
