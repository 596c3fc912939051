use Rattle.uefi_vars.specs.Vars.{entry_of}
use Rattle.uefi_vars.proofs.laws.variables_have_one_plan.Goals as goal

pub returns : goal.returns
returns c = λ vars p q f g.
    let order = c.variables_have_one_order.ensures vars g.order f.order g.has_order f.has_order in
    let next = c.variables_have_one_next.ensures vars g.next f.next g.has_next f.has_next in
    c.entries_have_one_plan.ensures (entry_of vars) f.order f.next p q f.is (rw (order, next) at g.is)
