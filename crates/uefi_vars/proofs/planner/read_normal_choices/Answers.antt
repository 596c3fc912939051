use Rattle.std.proofs.Common.{arith}
use Rattle.uefi_vars.specs.Vars.{entry_of}
use Rattle.uefi_vars.proofs.Plans.{choose, pass}
use Rattle.uefi_vars.proofs.planner.read_normal_choices.Goals as goal
use Rattle.uefi_vars.proofs.planner.read_normal_choices.Goals.{in-Some+in_ok-push, in_default}

pub loop-place-preserved : goal.loop-place-preserved
loop-place-preserved c =
    let entries = entry_of c.args.vars.now in
    let i = c.loop-place.place in
    let found = c.in_ok-choice.ensures.choice in
    record {
      tells = c.in_ok-choice.ensures.tells;
      met = c.in_ok-choice.ensures.met;
      chosen = elim c.match-branch-3.branch [
        | in-Some+in_ok-push w ↦ rw (w.choices-is, w.in_ok-push.ensures.items)
            (choose entries c.args.order.now i c.loop-place.choices.items w.in-Some.choice (omega arith)
            c.loop-place.invariant.chosen (rw w.in-Some.is at found))
        | in_default w ↦ let none = rw w.in_default.is at found in
            rw w.choices-is (pass entries c.args.order.now i c.loop-place.choices.items (omega arith)
            c.loop-place.invariant.chosen (λ choice is. none (choice, is)))
      ];
    }
