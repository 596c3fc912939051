use Rattle.std.proofs.Common.{sym}
use Rattle.place_edits.proofs.Undoing.{put_kept}
use Rattle.place_edits.proofs.brought.keep_entry.Goals as goal

pub returns-in-Ok : goal.returns-in-Ok
returns-in-Ok c = put_kept c.args.vars.now c.args.wanted.now c.put.new.self c.args.name.now c.in-Some.data.now c.in-Ok.ensures.put (sym c.in-Some.ensures.value)
