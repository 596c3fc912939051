-- What `command` says of the history of the replay is so of the moves that were told, and of the one that is asked for.
use Rattle.std.proofs.Common.{◌≡◌, [], ◌∷◌, refl, sym, subst}
use Rattle.boot_moves.specs.Deeds.{deeds_of, after_all, past}
use Rattle.boot_moves.specs.Ending.{Ends}
use Rattle.boot_moves.specs.Kept.{store_of}
use Rattle.boot_moves.proofs.Replays.{first_is, of_command, ends_over, asks_weaker, ends_weaker}
use Rattle.boot_moves.proofs.replaying.replay.Given.{Over}
use Rattle.boot_moves.proofs.replaying.replay.Goals as goal
use Rattle.boot_moves.proofs.replaying.replay.Goals.{After-outcome_of}

starts : (g : Over) (c : After-outcome_of g) → after_all (deeds_of c.new-machine.result.made.items) (store_of c.new-machine.result.first.now) ≡ store_of c.args.start.first.now
starts g c i = after_all (deeds_of (c.new-machine.ensures.made i)) (store_of (c.new-machine.ensures.first i))

begins : (g : Over) (c : After-outcome_of g) → store_of c.new-machine.result.first.now ∷ past (deeds_of c.new-machine.result.made.items) (store_of c.new-machine.result.first.now)
    ≡ store_of c.args.start.first.now ∷ []
begins g c i = store_of (c.new-machine.ensures.first i) ∷ past (deeds_of (c.new-machine.ensures.made i)) (store_of (c.new-machine.ensures.first i))

pub returns-clause-asks : goal.returns-clause-asks
returns-clause-asks g c =
    let m = c.command-answered.new.machine in
    asks_weaker _ _ c.outcome_of.result (λ asked is. of_command (g.R.Run.leads c.args.run) c.args.boot.now (store_of c.args.start.first.now) _
    (store_of m.first.now) _ _ (deeds_of m.made.items) _ (starts g c) (begins g c) refl is c.command-answered.ensures.moves
    c.command-answered.ensures.any_moment) c.outcome_of.ensures.asks

pub returns-clause-told : goal.returns-clause-told
returns-clause-told g c =
    let m = c.command-answered.new.machine in
    ends_weaker _ _ c.outcome_of.result (λ ended is. of_command (g.R.Run.leads c.args.run) c.args.boot.now (store_of c.args.start.first.now) _
    (store_of m.first.now) _ _ (deeds_of m.made.items) _ (starts g c) (begins g c) refl is.0 c.command-answered.ensures.moves
    c.command-answered.ensures.any_moment) c.outcome_of.ensures.ends

pub returns-clause-ends : goal.returns-clause-ends
returns-clause-ends g c =
    let m = c.command-answered.new.machine in
    let n = c.new-machine.result in
    let said = c.command-answered.ensures in
    let leads = g.R.Run.leads c.args.run in
    let refuses = g.R.Run.refuses c.args.run in
    let boot = c.args.boot.now in
    let first = store_of c.args.start.first.now in
    let same : store_of m.first.now ≡ first = first_is _ first (store_of m.first.now) _ _ (deeds_of m.made.items) (begins g c) refl said.moves in
    let here : Ends {A = g.row.R-Answer.Denot} {F = g.row.R-Fault.Denot} leads refuses boot
    (after_all (deeds_of n.made.items) (store_of n.first.now)) (after_all (deeds_of m.made.items) (store_of m.first.now)) c.command-answered.result =
    record {
      done = said.done;
      unchanged = said.unchanged;
      not_run = said.not_run;
      settling = said.settling;
      settling_tried = said.settling_tried;
      settling_only_tried = said.settling_only_tried;
      updating = said.updating;
      updating_tried = said.updating_tried;
      refused = said.refused;
      left = said.left;
    } in
    ends_weaker _ _ c.outcome_of.result (λ ended is. ends_over leads refuses boot _ first _ (after_all (deeds_of c.args.start.told.now) first)
    ended (starts g c) (λ i. after_all (is.0 i) (same i))
    (subst (λ r. Ends {A = g.row.R-Answer.Denot} {F = g.row.R-Fault.Denot} leads refuses boot
    (after_all (deeds_of n.made.items) (store_of n.first.now)) (after_all (deeds_of m.made.items) (store_of m.first.now)) r) (sym is.1) here)) c.outcome_of.ensures.ends
