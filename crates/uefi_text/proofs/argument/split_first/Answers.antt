use Rattle.std.proofs.Common.{ap, ◌∙◌}
use Rattle.uefi_text.specs.Reader.{parts_of}
use Rattle.uefi_text.proofs.Read.Marks.{arguments_one, arguments_more}
use Rattle.uefi_text.proofs.argument.split_first.Goals as goal

pub returns-in-None : goal.returns-in-None
returns-in-None c = arguments_one c.args.mark c.args.text.now c.in-None.ensures

pub returns-in-Some : goal.returns-in-Some
returns-in-Some c =
    ap (parts_of c.args.mark) c.in-Some.ensures.parts ∙ arguments_more c.args.mark c.in-Some.parts.0.now c.in-Some.parts.1.now c.in-Some.ensures.lacks
