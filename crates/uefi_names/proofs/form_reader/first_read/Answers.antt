use Rattle.uefi_names.proofs.Arguments.{first_taken, first_refused, rest_is}
use Rattle.uefi_names.proofs.form_reader.first_read.Goals as goal

pub returns-in-Some-2-clause-read : goal.returns-in-Some-2-clause-read
returns-in-Some-2-clause-read c =
    first_taken c.args.show c.args.len c.args.from c.args.arguments.now c.in-Some.first.now c.in-Some.field-0-1.now c.in-Some-2.bytes.items (rest_is c.args.from c.args.arguments.now _ c.in-Some.ensures.cases.0) (rw c.in-Some-2.is at c.in_ok-bytes.ensures)

pub returns-in-None-clause-read : goal.returns-in-None-clause-read
returns-in-None-clause-read c =
    first_refused c.args.show c.args.len c.args.from c.args.arguments.now c.in-Some.first.now c.in-Some.field-0-1.now (rest_is c.args.from c.args.arguments.now _ c.in-Some.ensures.cases.0) (rw c.in-None.is at c.in_ok-bytes.ensures)
