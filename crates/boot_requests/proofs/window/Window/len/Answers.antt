-- The slots are looked at number by number: each that is taken counts one more request that waits.
use Rattle.std.proofs.Common.{◌≡◌, ◌<◌, ◌+◌, ◌≤◌, length, sym, ap, ◌∙◌, arith, None}
use Rattle.std.proofs.lemmas.List.{get_or_default}
use Rattle.boot_requests.specs.Slots.{place_of, slot_at}
use Rattle.boot_requests.proofs.Turn.Slots.{no_slot, count_more, some_count, none_count}
use Rattle.boot_requests.proofs.window.Window.len.Goals.{then-is_taken, else-is_taken}
use Rattle.boot_requests.proofs.window.Window.len.Goals as goal

pub loop-distance-init : goal.loop-distance-init
loop-distance-init c = record { below = omega arith; count = sym (no_slot c.args.next_number c.self.inside.slots.items) }

pub loop-distance-preserved : goal.loop-distance-preserved
loop-distance-preserved c =
    let next = c.args.next_number in
    let slots = c.self.inside.slots.items in
    let distance = c.loop-distance.distance in
    let count = c.loop-distance.count in
    let there : c.place_of.result < length slots = omega (arith, c.place_of.ensures.below, c.self.invariant) in
    let slot : slot_at slots (place_of (next + distance)) ≡ c.index.result.now =
    sym (c.index.ensures ∙ get_or_default slots c.place_of.result c.index.result.now None there ∙ ap (slot_at slots) c.place_of.ensures.is) in
    let some : 1 ≤ distance = omega arith in
    elim c.if-is_taken.branch [
      | then-is_taken w ↦ record {
        below = omega arith;
        count = count_more count c.if-is_taken.count distance next slots c.index.result.now some c.loop-distance.invariant.count slot
            (let one = some_count c.index.result.now (sym c.is_taken.ensures ∙ w.if-is_taken.true) in omega arith);
      }
      | else-is_taken w ↦ record {
        below = omega arith;
        count = count_more count c.if-is_taken.count distance next slots c.index.result.now some c.loop-distance.invariant.count slot
            (let none = none_count c.index.result.now (sym c.is_taken.ensures ∙ w.if-is_taken.false) in omega arith);
      }
    ]
