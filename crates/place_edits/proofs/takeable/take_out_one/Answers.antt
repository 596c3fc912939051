use Rattle.place_edits.proofs.Taking.{one_out}
use Rattle.place_edits.proofs.takeable.take_out_one.Goals as goal

pub returns : goal.returns
returns c = one_out c.args.vars.now c.remove_entry.new.self c.args.entry c.remove_entry.ensures.removed
