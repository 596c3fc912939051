use Rattle.std.proofs.Common.{◌+◌}
use Rattle.boot_requests.specs.Limits.{payload_max}
use Rattle.boot_requests.proofs.EventLists.Scripts.{list_events}
use Rattle.boot_requests.proofs.EventLists.Streams.{only_stream, only_stream_fault, list_stream, list_stream_fault, list_rest}
use Rattle.boot_requests.proofs.stream.read_stream.Goals as goal

pub returns : goal.returns
returns c =
    let stream = c.args.stream.now in
    let list = c.in_ok-list.list in
    let is = c.in_ok-list.ensures.list in
    let read = c.into_events in
    let found = list_stream stream list.events.items list.places.items list.end list.fault is read.result (λ events. events.items) read.ensures.events in
    let told = list_stream_fault stream list.events.items list.places.items list.end list.fault is read.result read.ensures.fault in
    record {
      found = found;
      only = λ events is_stream. only_stream stream read.result (λ events. events.items) events found told is_stream;
      fault = told;
      only_fault = λ fault bad. only_stream_fault stream read.result (λ events. events.items) fault found told bad;
      rest = list_rest list.fault (12 + payload_max) read.result c.in_ok-list.ensures.rest read.ensures.fault;
      valid = list_events list.events.items list.fault read.result (λ events. events.items) c.in_ok-list.ensures.valid read.ensures.events;
    }
