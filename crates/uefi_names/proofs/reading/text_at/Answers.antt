use Rattle.uefi_names.proofs.Arguments.{text_here, rest_is}
use Rattle.uefi_names.proofs.reading.text_at.Goals as goal

pub returns-in-Some-clause-some : goal.returns-in-Some-clause-some
returns-in-Some-clause-some c = text_here c.args.index c.args.texts.now c.in-Some.text.now c.in-Some.field-0-1.now (rest_is c.args.index c.args.texts.now _ c.in-Some.ensures.cases.0)
