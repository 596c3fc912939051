use Rattle.uefi_option.proofs.Readings.{front_read, cut_list, empty_list}
use Rattle.uefi_option.proofs.reader.split_option.Goals as goal

pub returns-then-len-rest-clause-fault : goal.returns-then-len-rest-clause-fault
returns-then-len-rest-clause-fault c =
    cut_list _ _ _ _ (front_read c.args.bytes.now c.in-Some.attributes c.in-Some.len c.in-Some.rest.now
    c.in-Some-split_units.description.now c.in-Some-split_units.rest.now c.in-Some.ensures.bounds c.in-Some.ensures.found
    c.in-Some-split_units.ensures.found) c.if-len-rest.true

pub returns-then-len-eq0-clause-fault : goal.returns-then-len-eq0-clause-fault
returns-then-len-eq0-clause-fault c =
    empty_list _ _ _ _ (front_read c.args.bytes.now c.in-Some.attributes c.in-Some.len c.in-Some.rest.now
    c.in-Some-split_units.description.now c.in-Some-split_units.rest.now c.in-Some.ensures.bounds c.in-Some.ensures.found
    c.in-Some-split_units.ensures.found) c.if-len-eq0.true
