use Rattle.boot_requests.proofs.input_format.InputFormat.events.Goals as goal

pub returns-in-Stream-clause-list : goal.returns-in-Stream-clause-list
returns-in-Stream-clause-list c = rw c.in-Stream.is c.stream_events.ensures.list
