use Rattle.std.proofs.Common.{sym, subst}
use Rattle.std.specs.List.{AllByRecursion}
use Rattle.uefi_vars.specs.Vars.{IsVariable}
use Rattle.uefi_vars.proofs.Maps.{entries-AllByRecursion}
use Rattle.uefi_vars.proofs.writer.write_set.Goals as goal

pub set_len-requires : goal.set_len-requires
set_len-requires c = subst (AllByRecursion IsVariable) (sym c.variables-variables.ensures.pairs)
    (entries-AllByRecursion c.args.vars.now c.variables-variables.ensures.valid)

pub append_variables-requires : goal.append_variables-requires
append_variables-requires c = subst (AllByRecursion IsVariable) (sym c.variables-variables.ensures.pairs)
    (entries-AllByRecursion c.args.vars.now c.variables-variables.ensures.valid)
