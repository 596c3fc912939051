use Rattle.std.proofs.Common.{ap, ◌∙◌}
use Rattle.uefi_text.specs.Reader.{one_of}
use Rattle.uefi_text.proofs.Read.Marks.{no_more}
use Rattle.uefi_text.proofs.argument.one.Goals as goal

pub returns-in-Some : goal.returns-in-Some
returns-in-Some c = ap one_of c.in-Some.ensures ∙ no_more c.args.mark c.in-Some.field-0.0.now c.in-Some.field-0.1.now
