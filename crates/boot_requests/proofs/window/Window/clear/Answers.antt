use Rattle.boot_requests.proofs.Turn.Slots.{free_slots, freed_is}
use Rattle.boot_requests.proofs.window.Window.clear.Goals as goal

pub returns : goal.returns
returns c =
    free_slots _ (freed_is c.self.inside.slots c.deref_mut.result.now c.free_all.new.slots c.free_all.ensures c.deref_mut.ensures.value c.self.invariant)
