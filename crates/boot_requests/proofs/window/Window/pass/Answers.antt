use Rattle.std.proofs.Common.{◌+◌, List, Option, None, length, ap, ◌∙◌}
use Rattle.std.proofs.Math.ListN.{set, length-set}
use Rattle.boot_requests.specs.declared.request.Request.{Request}
use Rattle.boot_requests.specs.Slots.{place_of}
use Rattle.boot_requests.proofs.Turn.Slots.{passed_slots, edited_is}
use Rattle.boot_requests.proofs.window.Window.pass.Goals as goal

pub invariant_of-self : goal.invariant_of-self
invariant_of-self c =
    let edited = edited_is c.self.inside.slots c.deref_mut.result.now c.free_slot.new.slots c.place_of.result
    (place_of (c.args.next_number + 1)) None c.free_slot.ensures c.deref_mut.ensures.value c.place_of.ensures.is in
    ap length edited ∙ length-set c.self.inside.slots.items (place_of (c.args.next_number + 1)) None ∙ c.self.invariant

pub returns : goal.returns
returns c =
    let edited = edited_is c.self.inside.slots c.deref_mut.result.now c.free_slot.new.slots c.place_of.result
    (place_of (c.args.next_number + 1)) None c.free_slot.ensures c.deref_mut.ensures.value c.place_of.ensures.is in
    passed_slots c.args.self.now _ c.args.next_number
    (edited ∙ ap (λ (slots : List (Option Request)). set slots (place_of (c.args.next_number + 1)) None) c.self.view_is)
