-- At first all are there, and at the end none is still to come.
use Rattle.std.proofs.Common.{◌≡◌, ap, ◌∙◌}
use Rattle.std.specs.FinMap.{entries}
use Rattle.uefi_vars.specs.Iter.{variables_left}
use Rattle.change_records.proofs.BootParts.{begins, goes_on, ends}
use Rattle.change_records.proofs.boot_part.boot_part.Goals as goal

pub loop-name-init : goal.loop-name-init
loop-name-init c =
    let all : variables_left c.into_iter-name-iterator.result ≡ entries c.args.vars.now =
    ap variables_left c.into_iter-name-iterator.ensures.into_iter_gives ∙ c.iter-name-items.ensures.items in
    begins c.args.vars.now c.in_ok-part.part _ c.in_ok-part.ensures.equal all

pub loop-name-preserved : goal.loop-name-preserved
loop-name-preserved c =
    goes_on c.args.vars.now c.loop-name.part c.leave_out_other.new.vars c.in-Some.name.now c.in-Some._data.now _ _ c.in-Some.ensures.steps
    c.leave_out_other.ensures c.loop-name.invariant

pub returns : goal.returns
returns c = ends c.args.vars.now c.loop-name.part _ c.in-None.ensures.steps.0 c.loop-name.invariant
