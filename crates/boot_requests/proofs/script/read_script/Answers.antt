use Rattle.boot_requests.proofs.EventLists.Scripts.{only_script, only_bad_line, list_script, list_line_fault, list_events}
use Rattle.boot_requests.proofs.script.read_script.Goals as goal

pub returns : goal.returns
returns c =
    let text = c.args.text.now in
    let list = c.in_ok-list.list in
    let is = c.in_ok-list.ensures.list in
    let read = c.into_events in
    let found = list_script text list.events.items list.places.items list.end list.fault is read.result (λ events. events.items) read.ensures.events in
    let told = list_line_fault text list.events.items list.places.items list.end list.fault is read.result read.ensures.fault in
    record {
      found = found;
      only = λ events script. only_script text read.result (λ events. events.items) events found told script;
      fault = told;
      only_fault = λ number bad. only_bad_line text read.result (λ events. events.items) number found told bad;
      valid = list_events list.events.items list.fault read.result (λ events. events.items) c.in_ok-list.ensures.valid read.ensures.events;
    }
