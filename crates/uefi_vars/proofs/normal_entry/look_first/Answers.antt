use Rattle.std.proofs.Common.{get_or}
use Rattle.uefi_vars.specs.Vars.{entry_of}
use Rattle.uefi_vars.specs.NormalEntry.{TellsNormal}
use Rattle.uefi_vars.proofs.Repeats.{still_tell, met_first}
use Rattle.uefi_vars.proofs.normal_entry.look_first.Goals as goal

pub returns-clause-tells : goal.returns-clause-tells
returns-clause-tells c =
    still_tell (TellsNormal (entry_of c.args.vars.now)) c.args.known.now c.keep.new.self (get_or c.args.order.now c.args.place 0)
    c.is_normal_entry-normal.result c.requires.tells c.is_normal_entry-normal.ensures c.keep.ensures

pub returns-clause-met : goal.returns-clause-met
returns-clause-met c =
    met_first c.args.order.now c.args.place c.args.known.now c.keep.new.self c.is_normal_entry-normal.result c.requires.within
    c.requires.met c.keep.ensures
