use Rattle.std.proofs.Common.{length, ap, sym, ◌∙◌}
use Rattle.std.specs.FinMap.{len-entries}
use Rattle.uefi_vars.proofs.vars.Vars.len.Goals as goal

pub returns-clause-len : goal.returns-clause-len
returns-clause-len c = c.len.ensures.value ∙ ap length c.iter.ensures.items ∙ sym (len-entries c.args.self.now)
