-- At first nothing is set, and all variables are still to come.
use Rattle.std.proofs.Common.{◌≡◌, sym, ap, subst, ◌∙◌}
use Rattle.std.specs.FinMap.{entries}
use Rattle.uefi_vars.specs.Iter.{variables_left}
use Rattle.uefi_vars.specs.NameChanges.{after_each}
use Rattle.boot_journal.specs.Attributes.{data_in}
use Rattle.boot_journal.proofs.WithAttributes.{AreIn, rewritten, entries_in, all_rewritten, data_elsewhere}
use Rattle.boot_journal.proofs.attributes.without_attributes.Goals as goal

pub loop-name-init : goal.loop-name-init
loop-name-init c =
    let vars = c.args.vars.now in
    let all : variables_left c.into_iter-name-iterator.result ≡ entries vars =
    ap variables_left c.into_iter-name-iterator.ensures.into_iter_gives ∙ c.iter-name-items.ensures.items in
    record {
      all = subst (AreIn vars) (sym all) (entries_in vars c.iter-name-items.ensures.valid);
      is = (λ i. after_each (c.in_ok-set.ensures.equal i) (rewritten data_in (all i))) ∙ all_rewritten data_in data_elsewhere vars;
    }
