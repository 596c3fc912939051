-- What the settling leaves is what the run reads, so what is told of the settling and of the run over what it left is so of the whole.
use Rattle.std.proofs.Common.{◌≡◌, [], inl, ⊎_elim, sym, ap, subst, ◌∙◌}
use Rattle.std.proofs.lemmas.Result.{IfOk-weaker}
use Rattle.uefi_vars.specs.Vars.{Variables}
use Rattle.boot_journal.specs.Commands.{IsCommanding, command_failures}
use Rattle.boot_journal.specs.Moves.{IsSettling}
use Rattle.boot_journal.specs.Store.{Store, IsIdle, brought, stands_for}
use Rattle.boot_journal.proofs.Commands.{command_updates, command_moves, command_moment, settled_reads, updated_stands}
use Rattle.boot_journal.proofs.Failures.{failed_then}
use Rattle.boot_journal.proofs.Moments.{weaker}
use Rattle.boot_journal.proofs.commanding.command.Goals as goal

pub returns-in-Ok-clause-done : goal.returns-in-Ok-clause-done
returns-in-Ok-clause-done g c =
    let s = g.M.Machine.store c.args.machine.now in
    let mid = g.M.Machine.store c.settle.new.machine in
    let new = g.M.Machine.store c.run_settled.new.machine in
    let reads = settled_reads c.args.boot.now s mid c.in-Ok.ensures.done in
    let Q = λ (answer : g.row.R-Answer.Denot). (to : Variables) × g.R.Run.leads c.args.run (stands_for c.args.boot.now s) to answer
    × IsIdle new × (stands_for c.args.boot.now new ≡ brought (stands_for c.args.boot.now s) to) in
    IfOk-weaker _ _ Q (λ answer did. (
      did.0,
      subst (λ (v : Variables). g.R.Run.leads c.args.run v did.0 answer) reads did.1,
      ap (λ (s : Store). s.journal.pending) did.2,
      updated_stands c.args.boot.now mid new did.0 did.2 ∙ ap (λ (v : Variables). brought v did.0) reads,
    )) c.run_settled.ensures.done

pub returns-in-Ok-clause-moves : goal.returns-in-Ok-clause-moves
returns-in-Ok-clause-moves g c =
    command_moves (g.R.Run.leads c.args.run) c.args.boot.now (g.M.Machine.store c.args.machine.now) (g.M.Machine.store c.settle.new.machine)
    _ _ _ c.in-Ok.ensures.done c.settle.ensures.moves c.run_settled.ensures.moves

pub returns-in-Err-clause-moves : goal.returns-in-Err-clause-moves
returns-in-Err-clause-moves g c = weaker _ _ _ _ (λ at settling. inl settling) c.settle.ensures.moves

pub returns-in-Ok-clause-left : goal.returns-in-Ok-clause-left
returns-in-Ok-clause-left g c =
    let s = g.M.Machine.store c.args.machine.now in
    let new = g.M.Machine.store c.run_settled.new.machine in
    let leads = g.R.Run.leads c.args.run in
    let left : IsCommanding (λ from to. (answer : g.row.R-Answer.Denot) × leads from to answer) c.args.boot.now s new = ⊎_elim
    (λ same. inl (subst (IsSettling c.args.boot.now s) (sym same) c.settle.ensures.left))
    (λ did. command_updates leads c.args.boot.now s (g.M.Machine.store c.settle.new.machine) new c.in-Ok.ensures.done did)
    c.run_settled.ensures.left in
    left

pub returns-in-Ok-clause-any_moment : goal.returns-in-Ok-clause-any_moment
returns-in-Ok-clause-any_moment g c =
    let s = g.M.Machine.store c.args.machine.now in
    let leads = g.R.Run.leads c.args.run in
    weaker _ _ _ _ (λ at is. command_moment c.each_change_is_needed.ensures c.keep_is_no_boot_name.ensures
    (λ from to. (answer : g.row.R-Answer.Denot) × leads from to answer) c.args.boot.now s at is)
    (command_moves leads c.args.boot.now s (g.M.Machine.store c.settle.new.machine)
    _ _ _ c.in-Ok.ensures.done c.settle.ensures.moves c.run_settled.ensures.moves)

pub returns-in-Err-clause-any_moment : goal.returns-in-Err-clause-any_moment
returns-in-Err-clause-any_moment g c = weaker _ _ _ _ (λ at either. inl either) c.settle.ensures.any_moment

pub returns-in-Ok-clause-failed_moves : goal.returns-in-Ok-clause-failed_moves
returns-in-Ok-clause-failed_moves g c =
    failed_then (g.M.Machine.failures c.args.machine.now) (g.M.Machine.failures c.settle.new.machine) (g.M.Machine.failures c.run_settled.new.machine)
    [] (command_failures c.run_settled.result) c.in-Ok.ensures.failed_moves c.run_settled.ensures.failed_moves
