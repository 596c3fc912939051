use Rattle.boot_requests.proofs.Turn.Slots.{free_slots}
use Rattle.boot_requests.proofs.window.Window.new.Goals as goal

pub returns : goal.returns
returns c = free_slots _ c.in_ok-slots.ensures
