use Rattle.std.proofs.Common.{◌≡◌, ◌<◌, [], ◌∷◌, None, Some, length, arith}
use Rattle.std.specs.Prelude.{MatchOption}
use Rattle.std.specs.List.{AllByRecursion}
use Rattle.boot_requests.specs.declared.script_fault.ScriptFault.TheVariants as fault
use Rattle.boot_requests.specs.Seen.{IsEvent}
use Rattle.boot_requests.specs.Script.{lines_of, IsScriptList}
use Rattle.boot_requests.proofs.EventLists.Scripts.{reading_more, reading_ends, reading_fails}
use Rattle.boot_requests.proofs.script.script_events.Goals as goal

pub returns-then-not-branch : goal.returns-then-not-branch
returns-then-not-branch c =
    let loop = c.loop-places in
    let text = c.args.text.now in
    let rest = loop.rest.now in
    let line = c.split_line.result.0.now in
    let new = c.append_event.new.events.items in
    let more = c.append_event.new.places.items in
    let bad = rw c.if-not-branch.true at c.in_ok-append_event.ensures in
    let both : IsScriptList text new more loop.number (Some (fault.BadLine loop.number)) × AllByRecursion IsEvent new =
    elim c.split_line.result.1 as (λ o.
    MatchOption o (lines_of rest ≡ line ∷ []) (λ others. (lines_of rest ≡ line ∷ lines_of others.now) × (length others.now < length rest))
    → IsScriptList text new more loop.number (Some (fault.BadLine loop.number)) × AllByRecursion IsEvent new) [
      | None ↦ λ cut. reading_fails text rest loop.events.items new loop.places.items more loop.number line loop.invariant [] cut bad.0 bad.1 bad.2
      | Some others ↦ λ cut. reading_fails text rest loop.events.items new loop.places.items more loop.number line loop.invariant (lines_of others.now) cut.0
          bad.0 bad.1 bad.2
    ] c.split_line.ensures in
    record { list = both.0; valid = both.1 }

pub loop-places-preserved : goal.loop-places-preserved
loop-places-preserved c =
    let loop = c.loop-places in
    let cut = rw c.in-Some.is at c.split_line.ensures in
    let appends = rw c.if-not-branch.false at c.in_ok-append_event.ensures in
    reading_more c.args.text.now loop.rest.now loop.events.items c.append_event.new.events.items loop.places.items c.append_event.new.places.items loop.number
    c.split_line.result.0.now loop.invariant _ c.in-Some.others.now cut.0 cut.1 appends (omega arith)

pub returns-in-None : goal.returns-in-None
returns-in-None c =
    let loop = c.loop-places in
    let cut = rw c.in-None.is at c.split_line.ensures in
    let appends = rw c.if-not-branch.false at c.in_ok-append_event.ensures in
    let both = reading_ends c.args.text.now loop.rest.now loop.events.items c.append_event.new.events.items loop.places.items c.append_event.new.places.items
    loop.number
    c.split_line.result.0.now loop.invariant cut appends in
    record { list = both.0; valid = both.1 }
