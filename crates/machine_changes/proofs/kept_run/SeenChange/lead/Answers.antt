-- What can't be told is of a change that the run leads to.
use Rattle.machine_changes.specs.KeptFault.{LeadsToChange}
use Rattle.machine_changes.proofs.KeptFaults.{unprepared_so}
use Rattle.machine_changes.proofs.kept_run.SeenChange.lead.Goals as goal

pub returns-in-Err-clause-refused : goal.returns-in-Err-clause-refused
returns-in-Err-clause-refused g c =
    let wanted = c.args.self.now.wanted.now in
    let seen = c.args.self.now.seen.now in
    let from = c.args.vars.now in
    unprepared_so (g.W.Wanted.refuses wanted seen from) ⊥ (LeadsToChange (g.W.Wanted.leads wanted seen) from) (λ none. absurd none)
    c.in-Err.error c.in-Err.ensures
