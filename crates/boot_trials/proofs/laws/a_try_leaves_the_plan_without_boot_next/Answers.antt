use Rattle.std.proofs.Common.{None, sym, ◌∙◌}
use Rattle.uefi_vars.specs.Vars.{entry_of}
use Rattle.boot_journal.specs.Attributes.{data_of}
use Rattle.boot_trials.proofs.laws.a_try_leaves_the_plan_without_boot_next.Goals as goal

pub returns : goal.returns
returns c entry start from to trial order plan is has planned =
    let differ = c.a_try_changes_boot_next_alone.ensures entry start from to trial is in (
      record { is = has.is; stored = differ.order ∙ has.stored },
      c.a_plan_reads_entries_alone.ensures (entry_of (data_of from)) (entry_of (data_of to)) order None plan has.is.numbers tt
          (λ number fits. sym (differ.entries number fits)) planned,
    )
