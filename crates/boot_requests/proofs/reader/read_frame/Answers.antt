use Rattle.boot_requests.proofs.Frames.Readings.{only_read, only_refused}
use Rattle.boot_requests.proofs.reader.read_frame.Goals as goal

pub returns-clause-only : goal.returns-clause-only
returns-clause-only c =
    only_read c.bytes_spell_one_request.ensures c.a_fault_leaves_no_request.ensures c.args.bytes.now c.read_parts.result
    (record { found = c.read_parts.ensures.found; fault = c.read_parts.ensures.fault })

pub returns-clause-only_fault : goal.returns-clause-only_fault
returns-clause-only_fault c =
    only_refused c.a_fault_leaves_no_request.ensures c.bytes_have_one_first_fault.ensures c.args.bytes.now c.read_parts.result
    (record { found = c.read_parts.ensures.found; fault = c.read_parts.ensures.fault })
