use Rattle.std.proofs.Common.{get_or}
use Rattle.uefi_vars.specs.Vars.{entry_of}
use Rattle.uefi_vars.specs.NormalEntry.{IsNormalIfAny}
use Rattle.uefi_vars.proofs.Repeats.{still_tell, met_first}
use Rattle.uefi_vars.proofs.normal_entry.read_first.Goals as goal

pub returns-clause-tells : goal.returns-clause-tells
returns-clause-tells c =
    still_tell (IsNormalIfAny (entry_of c.args.vars.now)) c.args.known.now c.keep.new.self (get_or c.args.order.now c.args.place 0)
    c.in_ok-choice.choice c.requires.tells c.in_ok-choice.ensures c.keep.ensures

pub returns-clause-met : goal.returns-clause-met
returns-clause-met c =
    met_first c.args.order.now c.args.place c.args.known.now c.keep.new.self c.in_ok-choice.choice c.requires.within c.requires.met
    c.keep.ensures
