use Rattle.std.proofs.Common.{◌<◌, List, Option, length, sym, ap, ◌∙◌, arith, None}
use Rattle.std.specs.FinMap.{get}
use Rattle.std.proofs.lemmas.List.{get_or_default}
use Rattle.boot_requests.specs.declared.request.Request.{Request}
use Rattle.boot_requests.specs.Slots.{slot_at, waiting_of}
use Rattle.boot_requests.proofs.Turn.Slots.{in_window, beyond_window}
use Rattle.boot_requests.proofs.window.Window.get.Goals as goal

pub returns : goal.returns
returns c =
    let slots = c.self.inside.slots.items in
    let there : c.place_of.result < length slots = omega (arith, c.place_of.ensures.below, c.self.invariant) in
    c.request.ensures ∙ c.index.ensures ∙ get_or_default slots c.place_of.result c.index.result.now None there ∙ ap (slot_at slots) c.place_of.ensures.is
    ∙ sym (in_window c.args.next_number slots c.args.number c.requires (omega (arith, c.if-number-next_number-ge-WIDTH.false)))
    ∙ ap (λ (s : List (Option Request)). get (waiting_of c.args.next_number s) c.args.number) c.self.view_is

pub returns-then-number-next_number-ge-WIDTH : goal.returns-then-number-next_number-ge-WIDTH
returns-then-number-next_number-ge-WIDTH c =
    sym (beyond_window c.args.next_number c.args.self.now c.args.number (omega (arith, c.if-number-next_number-ge-WIDTH.true, c.requires)))
