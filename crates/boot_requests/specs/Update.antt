-- For private functions: what an update makes of the plain state of a keeper.
use Rattle.std.specs.Prelude.{◌<◌, ◌≤◌, ◌+◌, Option, Some, None}
use Rattle.std.specs.FinMap.{insert}
use Rattle.uefi_vars.specs.NameChanges.{with_changes}
use Rattle.uefi_vars.specs.Plan.{PlanParts}
use Rattle.boot_requests.specs.declared.update.Update.{Update}
use Rattle.boot_requests.specs.declared.update.Update.TheVariants.{Nothing, Waits, Applied, Prepared, HandedOut, Restarted}
use Rattle.boot_requests.specs.Limits.{width}
use Rattle.boot_requests.specs.Frame.{IsSent}
use Rattle.boot_requests.specs.Apply.{after_boot}
use Rattle.boot_requests.specs.Turn.{Plain, plain_start}
use Rattle.boot_requests.specs.Keeper.{IsStateOf}
use Rattle.boot_requests.specs.StateOf.{state_of, plain_of, image_of}
use Rattle.boot_requests.specs.Slots.{above}

-- the plain state with this plan prepared, or none
abbrev pub with_plan : Plain → Option PlanParts → Plain
with_plan k plan = record k { plan = plan }

-- the plain state after an update
abbrev pub after_update : Plain → Update → Plain
after_update k Nothing = k
after_update k (Waits number request) = record k { waiting = insert k.waiting number request.value }
after_update k (Applied changes mark) =
    plain_of (state_of (with_changes (image_of k.state) changes) mark) (above mark.next_number k.waiting) k.plan
after_update k (Prepared plan) = record k { state = after_boot k.state; plan = Some plan }
after_update k HandedOut = record k { plan = None }
after_update k Restarted = plain_start k.state

-- A keeper in this plain state can be updated so: a request that waits from now on was read off a frame, and has a
-- number above the next one and less than `width` from it; the next number doesn't fall, and variables with a next
-- number and outcomes stand for the state that is read off them.
abbrev pub Fits : Plain → Update → Type 0
Fits k Nothing = Unit {0}
Fits k (Waits number request) =
    (k.state.next_number < number) × (number < k.state.next_number + width) × IsSent number request.value
Fits k (Applied changes mark) =
    let vars = with_changes (image_of k.state) changes in
    (k.state.next_number ≤ mark.next_number) × IsStateOf (state_of vars mark) vars
Fits k (Prepared plan) = Unit {0}
Fits k HandedOut = Unit {0}
Fits k Restarted = Unit {0}
