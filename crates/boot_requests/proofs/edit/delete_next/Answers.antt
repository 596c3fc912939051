use Rattle.boot_requests.proofs.Variables.Edits.{next_deleted}
use Rattle.boot_requests.proofs.edit.delete_next.Goals as goal

pub returns : goal.returns
returns c = λ m h. next_deleted m c.args.vars.now _ c.remove.ensures.removed h
