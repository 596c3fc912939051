use Rattle.std.proofs.Common.{sym, ◌∙◌, arith}
use Rattle.std.proofs.lemmas.Bool.{false≢true}
use Rattle.uefi_vars.specs.Vars.{entry_of}
use Rattle.uefi_vars.proofs.Chosen.{choose_number, pass_number}
use Rattle.uefi_vars.proofs.planner.normal_numbers.Goals as goal
use Rattle.uefi_vars.proofs.planner.normal_numbers.Goals.{then-look_once+in_ok-push, else-look_once}

pub loop-place-preserved : goal.loop-place-preserved
loop-place-preserved c =
    let entries = entry_of c.args.vars.now in
    let i = c.loop-place.place in
    let tells = c.look_once.ensures.answer in
    record {
      tells = c.look_once.ensures.tells;
      met = c.look_once.ensures.met;
      chosen = elim c.if-look_once.branch [
        | then-look_once+in_ok-push w ↦ rw (w.numbers-is, w.in_ok-push.ensures.items)
            (choose_number entries c.args.order.now i c.loop-place.numbers.items (omega arith)
            c.loop-place.invariant.chosen (tells.0 w.if-look_once.true))
        | else-look_once w ↦ rw w.numbers-is (pass_number entries c.args.order.now i c.loop-place.numbers.items (omega arith)
            c.loop-place.invariant.chosen (λ has. false≢true (sym w.if-look_once.false ∙ tells.1 has)))
      ];
    }
