use Rattle.std.proofs.Common.{◌<◌, ◌^◌, length, get_or, take, sym, subst, arith}
use Rattle.std.proofs.lemmas.List.{take_more, take_all}
use Rattle.boot_edits.specs.Parts.{Becomes}
use Rattle.boot_edits.specs.Switch.{switched}
use Rattle.boot_edits.proofs.Lists.{stored_at}
use Rattle.boot_edits.proofs.Parts.{as_it_was, changed_more}
use Rattle.boot_edits.proofs.activate.set_active.Goals as goal

pub loop-number-init : goal.loop-number-init
loop-number-init c = subst (Becomes c.args.vars.now _) (sym c.in_ok-edited.ensures.equal) (as_it_was c.args.vars.now)

pub loop-number-preserved : goal.loop-number-preserved
loop-number-preserved c =
    let i = c.loop-number.number-index in
    let numbers = c.args.numbers.now in
    let vars = c.args.vars.now in
    let within : i < length numbers = omega arith in
    let fits : get_or numbers i 0 < 2 ^ 16 = omega (arith, c.type_inv.numbers i) in
    let there = stored_at vars numbers c.in_ok-check_each.ensures.fine i within in
    rw (take_more numbers i 0 within)
    (subst (Becomes vars _) (sym (c.in_ok-switch.ensures there.0 there.1))
    (changed_more (switched c.args.active) (take i numbers) (get_or numbers i 0) vars c.loop-number.edited there.0 fits there.1 c.loop-number.invariant))

pub returns-clause-done : goal.returns-clause-done
returns-clause-done c = record {
  fine = c.in_ok-check_each.ensures.fine;
  becomes = rw (take_all c.loop-number.number-index c.args.numbers.now (omega arith)) at c.loop-number.invariant;
}
