use Rattle.uefi_names.proofs.Arguments.{all_taken, all_refused}
use Rattle.uefi_names.proofs.form_reader.all_read.Goals as goal

pub returns-in-Some-clause-read : goal.returns-in-Some-clause-read
returns-in-Some-clause-read c =
    all_taken c.args.item c.args.size c.args.from c.args.arguments.now c.in-Some.bytes.items (rw c.in-Some.is at c.in_ok-bytes.ensures)

pub returns-in-None-clause-read : goal.returns-in-None-clause-read
returns-in-None-clause-read c =
    all_refused c.args.item c.args.size c.args.from c.args.arguments.now (rw c.in-None.is at c.in_ok-bytes.ensures)
