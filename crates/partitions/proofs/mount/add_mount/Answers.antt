use Rattle.std.proofs.Common.{sym, ◌∙◌}
use Rattle.partitions.proofs.Added.{adds_from}
use Rattle.partitions.proofs.mount.add_mount.Goals as goal

pub returns-in_ok-push-in-Ok-clause-ok : goal.returns-in_ok-push-in-Ok-clause-ok
returns-in_ok-push-in-Ok-clause-ok c =
    adds_from c.args.line.now c.args.mounts.now.items c.push.new.self.items c.in-Ok.mount (sym c.is_empty.ensures ∙ c.if-is_empty.false)
    c.in-Ok.ensures.mount c.in_ok-push-in-Ok.ensures.items
