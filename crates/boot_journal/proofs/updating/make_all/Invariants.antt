-- So far the first changes are made, and each moment is one after some of them.
use Rattle.std.proofs.Common.{◌≡◌, ◌≤◌, [], take}
use Rattle.boot_journal.specs.Cause.{HaveFailed}
use Rattle.boot_journal.specs.Moments.{Leaves}
use Rattle.boot_journal.specs.Store.{with_made, IsFrontStore}
use Rattle.boot_journal.proofs.updating.make_all.Given as goal

abbrev pub invariant-loop-change : goal.invariant-loop-change
invariant-loop-change g l = record {
  rising : g.M.Machine.refusals l.fn.machine ≤ g.M.Machine.refusals l.machine;
  none : HaveFailed (g.M.Machine.failures l.fn.machine) (g.M.Machine.failures l.machine) [];
  so_far : g.M.Machine.store l.machine ≡ with_made (take l.change-index l.changes) (g.M.Machine.store l.fn.machine);
  moments : Leaves (IsFrontStore l.changes (g.M.Machine.store l.fn.machine)) (g.M.Machine.history l.fn.machine) (g.M.Machine.history l.machine);
}
