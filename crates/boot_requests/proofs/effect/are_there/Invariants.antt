use Rattle.std.proofs.Common.{◌≡◌, true, take}
use Rattle.std.specs.List.{list_all}
use Rattle.uefi_vars.specs.NameChanges.{with_changes}
use Rattle.boot_requests.specs.State.{State}
use Rattle.boot_requests.specs.Apply.{is_there}
use Rattle.boot_requests.specs.Keeper.{IsStateOf}
use Rattle.boot_requests.proofs.effect.are_there.Given as goal

abbrev pub invariant-loop-number : goal.invariant-loop-number
invariant-loop-number l = (m : State) → IsStateOf m (with_changes l.vars l.changes) → list_all (is_there m) (take l.number-index l.numbers) ≡ true
