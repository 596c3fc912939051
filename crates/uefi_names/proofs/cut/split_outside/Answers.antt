use Rattle.uefi_names.proofs.Cuts.{first_piece, only_piece}
use Rattle.uefi_names.proofs.cut.split_outside.Goals as goal

pub returns-in-None-clause-all : goal.returns-in-None-clause-all
returns-in-None-clause-all c = only_piece c.args.mark c.args.text.now c.in-None.ensures.parts

pub returns-in-Some-clause-all : goal.returns-in-Some-clause-all
returns-in-Some-clause-all c = first_piece c.args.mark c.args.text.now _ _ c.in-Some.ensures.parts
