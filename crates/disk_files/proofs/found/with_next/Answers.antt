use Rattle.std.proofs.Common.{sym, ◌∙◌}
use Rattle.std.proofs.lemmas.Bool.{true≢false}
use Rattle.disk_files.proofs.Searches.{stays}
use Rattle.disk_files.proofs.found.with_next.Goals as goal

pub returns-then-is_known : goal.returns-then-is_known
returns-then-is_known c = λ before are. c.with_known.ensures c.args.id before (c.is_known.ensures.0 c.if-is_known.true) are

pub returns-else-is_known : goal.returns-else-is_known
returns-else-is_known c = λ before are.
    stays c.args.id before c.args.next.now c.args.known
    (λ same. true≢false (sym (c.is_known.ensures.1 same) ∙ c.if-is_known.false)) are
