-- Each change that is made leads one further, and one that fails has left the store as it was or has led one further.
use Rattle.std.proofs.Common.{◌≡◌, ◌⊎◌, ◌<◌, ◌∷◌, [], length, refl, arith, rules}
use Rattle.boot_journal.specs.Store.{Store, with_made, IsFrontStore}
use Rattle.boot_journal.proofs.Failures.{none_failed, failed_then, failed_by}
use Rattle.boot_journal.proofs.Moments.{reached, reached_or_not, stays, then, weaker}
use Rattle.boot_journal.proofs.updating.make_all.Given.{Over}
use Rattle.boot_journal.proofs.updating.make_all.Goals.{After-make}
use Rattle.boot_journal.proofs.updating.make_all.Goals as goal

within : (g : Over) (c : After-make g) → c.loop-change.change-index < length c.args.changes.now
within g c = omega (arith, c.loop-change-test.true)

front : (g : Over) (c : After-make g) (s : Store) → (s ≡ g.M.Machine.store c.loop-change.machine)
    ⊎ (s ≡ with_made (c.change-item.result ∷ []) (g.M.Machine.store c.loop-change.machine))
    → IsFrontStore c.args.changes.now (g.M.Machine.store c.args.machine.now) s
front g c s made =
    reached_or_not c.args.changes.now c.loop-change.change-index c.change-item.result _ _ s c.loop-change.invariant.so_far (within g c) c.change-item.is made

pub returns-in_err-make-clause-failed : goal.returns-in_err-make-clause-failed
returns-in_err-make-clause-failed g c =
    let here : IsFrontStore c.args.changes.now (g.M.Machine.store c.args.machine.now) (g.M.Machine.store c.make.new.self) =
    front g (goal.at.returns-in_err-make-clause-failed g c).After-make _ c.make.ensures.whole in
    search (rules, here)

pub returns-in_err-make-clause-moments : goal.returns-in_err-make-clause-moments
returns-in_err-make-clause-moments g c =
    then _ _ _ _ c.loop-change.invariant.moments
    (weaker _ _ _ _ (front g (goal.at.returns-in_err-make-clause-moments g c).After-make) c.make.ensures.moments)

pub loop-change-preserved : goal.loop-change-preserved
loop-change-preserved g c =
    let make = (goal.at.loop-change-preserved g c).After-make in
    record {
      rising = omega (arith, c.loop-change.invariant.rising, c.make.ensures.cause.later);
      none = failed_then (g.M.Machine.failures c.args.machine.now) (g.M.Machine.failures c.loop-change.machine) (g.M.Machine.failures c.make.new.self)
          [] [] c.loop-change.invariant.none c.in_ok-make.ensures.failed;
      so_far = reached c.args.changes.now c.loop-change.change-index c.change-item.result _ _ _ c.loop-change.invariant.so_far (within g make)
          c.change-item.is c.in_ok-make.ensures.made;
      moments = then _ _ _ _ c.loop-change.invariant.moments (weaker _ _ _ _ (front g make) c.make.ensures.moments);
    }

pub returns-in_err-make-clause-failed_moves : goal.returns-in_err-make-clause-failed_moves
returns-in_err-make-clause-failed_moves g c =
    let old = g.M.Machine.failures c.args.machine.now in
    let mid = g.M.Machine.failures c.loop-change.machine in
    let new = g.M.Machine.failures c.make.new.self in
    let error = c.in_err-make.field-0.0 in
    failed_by old new error c.from_residual.result (search rules) (failed_then old mid new [] (error ∷ []) c.loop-change.invariant.none c.in_err-make.ensures.failed)

pub returns-clause-failed_moves : goal.returns-clause-failed_moves
returns-clause-failed_moves g c = c.loop-change.invariant.none

pub loop-change-init : goal.loop-change-init
loop-change-init g c =
    record {
      rising = omega arith;
      none = none_failed (g.M.Machine.failures c.args.machine.now);
      so_far = refl;
      moments = stays _ _;
    }
