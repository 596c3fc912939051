use Rattle.std.proofs.Common.{ap, ◌∙◌}
use Rattle.uefi_text.specs.Reader.{one_or_two_of}
use Rattle.uefi_text.proofs.Read.Marks.{told_from, two_more}
use Rattle.uefi_text.proofs.argument.one_or_two.Goals as goal

pub returns-in-Err : goal.returns-in-Err
returns-in-Err c =
    told_from c.in-Err.fault (λ e. ap one_or_two_of c.in-Some.ensures
    ∙ two_more c.args.mark c.in-Some.first.now c.in-Some.others.now e) (λ no. no) c.in-Err.ensures
