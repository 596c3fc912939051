use Rattle.std.proofs.Common.{◌≡◌}
use Rattle.boot_requests.specs.Slots.{above, waiting_of, IsWindow}
use Rattle.boot_requests.proofs.window.Window.pass_to.Given as goal

abbrev pub invariant-loop-number : goal.invariant-loop-number
invariant-loop-number l =
    IsWindow l.next_number l.fn.self → IsWindow l.number l.self × (waiting_of l.number l.self ≡ above l.number (waiting_of l.next_number l.fn.self))
