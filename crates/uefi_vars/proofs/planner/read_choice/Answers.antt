use Rattle.std.proofs.Common.{subst}
use Rattle.uefi_vars.specs.Vars.{entry_of}
use Rattle.uefi_vars.specs.Plan.{IsEntryOption}
use Rattle.uefi_vars.proofs.planner.read_choice.Goals as goal

pub returns-in-None : goal.returns-in-None
returns-in-None c =
    let none = subst (IsEntryOption (entry_of c.args.vars.now) c.args.number) c.in-None.is c.in_ok-option.ensures in
    λ choice is. none choice.option is.1
