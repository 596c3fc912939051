use Rattle.std.proofs.Common.{ap, ◌∙◌}
use Rattle.uefi_text.specs.Reader.{first_of}
use Rattle.uefi_text.proofs.Read.Marks.{one_more}
use Rattle.uefi_text.proofs.argument.first.Goals as goal

pub returns-in-Some : goal.returns-in-Some
returns-in-Some c = ap first_of c.in-Some.ensures ∙ one_more c.args.mark c.in-Some.parts.0.now c.in-Some.parts.1.now
