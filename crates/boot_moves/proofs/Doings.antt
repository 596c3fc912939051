-- What is done one after the other, as calls: by cases over what each is, and by induction over them.
use Rattle.std.proofs.Common.{◌≡◌, ⊎_elim, List, [], ◌∷◌, map, refl, sym, subst, ◌∙◌, Vec}
use Rattle.std.specs.Global.{Global}
use Rattle.boot_requests.specs.declared.answer.Answer.{Answer as Reply}
use Rattle.journaled_requests.specs.declared.requests.Requests.{Requests}
use Rattle.journaled_requests.specs.declared.requests.RunFault.{RunFault}
use Rattle.journaled_requests.specs.Calls.{CallLeads, Runs, Open, world_after, AreSteps}
use Rattle.boot_journal.specs.Events.{World, world}
use Rattle.boot_journal.specs.Store.{Store}
use Rattle.boot_moves.specs.Deeds.{after_all}
use Rattle.boot_moves.specs.Ending.{Ends}
use Rattle.boot_moves.specs.Exchanges.{Exchange, Asks, Ended, Fails, Tells, RequestsExchanged, AreOfRequests, RequestsLead, RequestsRefuse}
use Rattle.boot_moves.specs.Exchanges.{IsNew, MayBeThere, value_after, ending_by, ending_in, Doing, Makes, Starts, Firmware, DoingLeads, DoneStep, call_by, step_by, AreDone}
use Rattle.boot_moves.specs.Parts.{Begun, MovesParts}
use Rattle.boot_moves.proofs.Exchanges.{holds_all, held_there, call_of}

-- one that is cut off
cut_is : (m : MovesParts Requests) (exchanges : List RequestsExchanged) (left : Store) → IsNew m → AreOfRequests m exchanges
    → MayBeThere (value_after m exchanges) left
    → CallLeads (world m.begun.boot m.begun.first) (Runs m.begun.run.events.now Open) (world m.begun.boot left)
cut_is m exchanges left new are there =
    (refl, held_there RequestsLead RequestsRefuse m (value_after m exchanges) left (holds_all RequestsLead RequestsRefuse m exchanges new are) there)

-- the last exchange says how it ended, or leaves it open
made_is : (m n : MovesParts Requests) (exchange : Exchange (Vec Reply Global) RunFault) (before : List RequestsExchanged) (left : Store) → IsNew m
    → AreOfRequests m (record { exchange = exchange; after = n } ∷ before) → MayBeThere n left
    → CallLeads (world m.begun.boot m.begun.first) (Runs m.begun.run.events.now (ending_by exchange)) (world m.begun.boot left)
made_is m n Asks before left new are there = cut_is m (record { exchange = Asks; after = n } ∷ before) left new are there
made_is m n (Ended result) before left new are there =
    let u = value_after m before in
    let held = holds_all RequestsLead RequestsRefuse m before new are.1 in
    let ends =
    subst (λ (b : Begun Requests). Ends (RequestsLead b.run) (RequestsRefuse b.run) b.boot b.first (after_all u.trace b.first) result) held.begun are.0.3 in
    let ended =
    call_of m.begun.run.events.now (RequestsRefuse m.begun.run) m.begun.boot m.begun.first (after_all u.trace m.begun.first) result ends in
    let none = are.0.2 in
    let is : left ≡ after_all n.trace n.begun.first = ⊎_elim (λ same. same) (λ asked. let some = asked.1 in absurd (cc)) there in
    let at : left ≡ after_all u.trace m.begun.first = is ∙ (λ i. after_all (are.0.1 i) ((are.0.0 ∙ held.begun) i).first) in
    subst (λ (s : Store). CallLeads (world m.begun.boot m.begun.first) (Runs m.begun.run.events.now (ending_by (Ended result))) (world m.begun.boot s)) (sym at) ended
made_is m n Fails before left new are there = cut_is m (record { exchange = Fails; after = n } ∷ before) left new are there
made_is m n (Tells answer) before left new are there =
    cut_is m (record { exchange = Tells answer; after = n } ∷ before) left new are there

makes_is : (m : MovesParts Requests) (exchanges : List RequestsExchanged) (left : Store) → IsNew m → AreOfRequests m exchanges
    → MayBeThere (value_after m exchanges) left
    → CallLeads (world m.begun.boot m.begun.first) (Runs m.begun.run.events.now (ending_in exchanges)) (world m.begun.boot left)
makes_is m [] left new are there = cut_is m [] left new are there
makes_is m (exchanged ∷ before) left new are there = made_is m exchanged.after exchanged.exchange before left new are there

-- each is the call that it is taken for
leads_is : (w v : World) (doing : Doing) → DoingLeads w doing v → CallLeads w (call_by doing) v
leads_is w v (Makes m exchanges) leads =
    let begins : world m.begun.boot m.begun.first ≡ w = λ i. record { boot = leads.1 i; store = leads.2 i } in
    let ends : world m.begun.boot v.store ≡ v = λ i. record { boot = (leads.1 ∙ sym leads.4) i; store = v.store } in
    subst (λ (x : World). CallLeads x (Runs m.begun.run.events.now (ending_in exchanges)) v) begins
    (subst (λ (x : World). CallLeads (world m.begun.boot m.begun.first) (Runs m.begun.run.events.now (ending_in exchanges)) x) ends
    (makes_is m exchanges v.store leads.0 leads.3 leads.5))
leads_is w v (Starts boot deletes) leads = leads
leads_is w v (Firmware changes) leads = leads

pub are_steps : (w : World) (done : List DoneStep) → AreDone w done → AreSteps w (map step_by done)
are_steps w [] are = tt
are_steps w (it ∷ before) are =
    (leads_is (world_after w (map step_by before)) it.after it.doing are.0, are_steps w before are.1)
