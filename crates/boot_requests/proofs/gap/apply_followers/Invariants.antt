use Rattle.std.proofs.Common.{◌≡◌, ◌-◌, ◌≤◌}
use Rattle.uefi_vars.specs.NameChanges.{with_changes}
use Rattle.boot_requests.specs.Limits.{no_number}
use Rattle.boot_requests.specs.Turn.{plain_start, settled_state}
use Rattle.boot_requests.specs.Keeper.{IsStateOf}
use Rattle.boot_requests.specs.StateOf.{state_of}
use Rattle.boot_requests.specs.Slots.{waiting_of}
use Rattle.boot_requests.proofs.gap.apply_followers.Given as goal

abbrev pub invariant-loop-request : goal.invariant-loop-request
invariant-loop-request l = record {
  above : l.fn.mark.next_number ≤ l.now.next_number;
  stands : IsStateOf (state_of (with_changes l.vars l.changes) l.now) (with_changes l.vars l.changes);
  settled : settled_state (plain_start (state_of (with_changes l.vars l.changes) l.now)) (waiting_of (l.fn.mark.next_number - 1) l.window)
      ≡ settled_state (plain_start (state_of (with_changes l.fn.vars l.fn.changes) l.fn.mark)) (waiting_of (l.fn.mark.next_number - 1) l.window);
}

abbrev pub decreases-loop-request : goal.decreases-loop-request
decreases-loop-request l = no_number - l.now.next_number
