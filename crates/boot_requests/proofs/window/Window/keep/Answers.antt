use Rattle.std.proofs.Common.{List, Option, Some, length, ap, ◌∙◌}
use Rattle.std.proofs.Math.ListN.{set, length-set}
use Rattle.boot_requests.specs.declared.request.Request.{Request}
use Rattle.boot_requests.specs.Slots.{place_of}
use Rattle.boot_requests.proofs.Turn.Slots.{kept_slots, edited_is}
use Rattle.boot_requests.proofs.window.Window.keep.Goals as goal

pub invariant_of-self : goal.invariant_of-self
invariant_of-self c =
    let edited = edited_is c.self.inside.slots c.deref_mut.result.now c.set_slot.new.slots c.place_of.result (place_of c.args.number)
    (Some c.args.request.value) c.set_slot.ensures c.deref_mut.ensures.value c.place_of.ensures.is in
    ap length edited ∙ length-set c.self.inside.slots.items (place_of c.args.number) (Some c.args.request.value) ∙ c.self.invariant

pub returns : goal.returns
returns c =
    let edited = edited_is c.self.inside.slots c.deref_mut.result.now c.set_slot.new.slots c.place_of.result (place_of c.args.number)
    (Some c.args.request.value) c.set_slot.ensures c.deref_mut.ensures.value c.place_of.ensures.is in
    kept_slots c.args.self.now _ c.args.number c.args.request.value
    (edited ∙ ap (λ (slots : List (Option Request)). set slots (place_of c.args.number) (Some c.args.request.value)) c.self.view_is)
