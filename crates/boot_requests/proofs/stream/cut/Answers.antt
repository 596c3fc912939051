use Rattle.std.proofs.Common.{◌≡◌, [], arith}
use Rattle.boot_requests.specs.declared.script_fault.ScriptFault.TheVariants as fault
use Rattle.boot_requests.specs.Stream.{nothing_cut}
use Rattle.boot_requests.proofs.EventLists.Streams.{fed_whole, fed_rest, fed_fault, no_rest}
use Rattle.boot_requests.proofs.stream.cut.Goals as goal

pub returns-in-0-clause-cut : goal.returns-in-0-clause-cut
returns-in-0-clause-cut c =
    let start = c.new-inbox.ensures.start in
    fed_whole c.args.stream.now c.feed.new.self c.new-frames.result.items c.feed.new.frames.items c.new-frames.ensures.items
    (c.in-Ok.ensures.fed (λ e. cc) [] nothing_cut start.0 start.1) c.held.result c.held.ensures.len c.in-0.is

pub returns-in-Ok-clause-cut : goal.returns-in-Ok-clause-cut
returns-in-Ok-clause-cut c =
    let start = c.new-inbox.ensures.start in
    fed_rest c.args.stream.now c.feed.new.self c.new-frames.result.items c.feed.new.frames.items c.new-frames.ensures.items
    (c.in-Ok.ensures.fed (λ e. cc) [] nothing_cut start.0 start.1) c.held.result c.held.ensures.len (omega arith)

pub returns : goal.returns
returns c =
    let start = c.new-inbox.ensures.start in
    record {
      cut = fed_fault c.args.stream.now c.feed.new.self c.new-frames.result.items c.feed.new.frames.items
          c.new-frames.ensures.items c.in-Err.fault c.from.result
          (λ other. c.in-Err.ensures.fed other [] nothing_cut start.0 start.1) c.from.ensures c.in_default-from.not-OutOfMemory;
      rest = λ count is. let same : c.from.result ≡ fault.Rest count = cc in absurd (no_rest c.in-Err.fault c.from.result count c.from.ensures same);
    }
