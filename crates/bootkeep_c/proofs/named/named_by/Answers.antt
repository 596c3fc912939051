use Rattle.std.proofs.Common.{◌∙◌}
use Rattle.uefi_vars.specs.Vars.{entry_of}
use Rattle.bootkeep_c.proofs.NamedEntries.{none_known, only_none}
use Rattle.bootkeep_c.proofs.named.named_by.Goals as goal

pub look_at_all-requires-clause-known : goal.look_at_all-requires-clause-known
look_at_all-requires-clause-known c =
    none_known (entry_of c.args.vars.now) c.deref_mut.result.now 0x10000
    (c.deref_mut.ensures.value ∙ c.in_ok-known.ensures.items_if_clones_equal (only_none _ (λ state is. is)))
