-- What the exchanges left is what a cut leaves in the command, and what the last one says is so of where they began.
use Rattle.std.proofs.Common.{refl, sym, subst, List}
use Rattle.journaled_requests.specs.declared.requests.Requests.{Requests}
use Rattle.journaled_requests.specs.Calls.{CallLeads, Runs}
use Rattle.boot_journal.specs.Events.{world}
use Rattle.boot_moves.specs.Deeds.{Deed, after_all}
use Rattle.boot_moves.specs.Ending.{Ends}
use Rattle.boot_moves.specs.Exchanges.{RequestsLead, RequestsRefuse, value_after, ending_of}
use Rattle.boot_moves.specs.Parts.{Begun}
use Rattle.boot_moves.proofs.Exchanges.{holds_all, held_there, call_of}
use Rattle.boot_moves.proofs.laws.a_command_that_its_caller_makes_is_a_call.Goals as goal

pub returns-clause-ended : goal.returns-clause-ended
returns-clause-ended c = λ m n ended before new are.
    let events = m.begun.run.events.now in
    let u = value_after m before in
    let held = holds_all RequestsLead RequestsRefuse m before new are.1 in
    let ends =
    subst (λ (b : Begun Requests). Ends (RequestsLead b.run) (RequestsRefuse b.run) b.boot b.first (after_all u.trace b.first) ended) held.begun are.0.3 in
    subst (λ (ds : List Deed). CallLeads (world m.begun.boot m.begun.first) (Runs events (ending_of ended)) (world m.begun.boot (after_all ds m.begun.first)))
    (sym are.0.1) (call_of events (RequestsRefuse m.begun.run) m.begun.boot m.begun.first (after_all u.trace m.begun.first) ended ends)

pub returns-clause-cut : goal.returns-clause-cut
returns-clause-cut c = λ m exchanges left new are there.
    let v = value_after m exchanges in
    (refl, held_there RequestsLead RequestsRefuse m v left (holds_all RequestsLead RequestsRefuse m exchanges new are) there)
