use Rattle.std.proofs.Common.{sym, ap}
use Rattle.std.specs.Prelude.{is_some}
use Rattle.uefi_vars.proofs.Repeats.{met_again, comes_first}
use Rattle.uefi_vars.proofs.normal_entry.look_once.Goals as goal

pub returns-in-Some-clause-met : goal.returns-in-Some-clause-met
returns-in-Some-clause-met c =
    let value = rw c.in-Some.is at c.get.ensures in
    met_again c.args.order.now c.args.place c.args.known.now c.requires.within c.requires.met (sym (ap is_some value))

pub look_first-requires-clause-first : goal.look_first-requires-clause-first
look_first-requires-clause-first c =
    let none = rw c.in_default.is at c.get.ensures in
    comes_first c.args.order.now c.args.place c.args.known.now c.requires.within c.requires.met (sym none)
