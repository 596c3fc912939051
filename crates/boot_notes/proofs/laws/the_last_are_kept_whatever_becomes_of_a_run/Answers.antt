use Rattle.boot_notes.proofs.Lasts.{lasts_kept}
use Rattle.boot_notes.proofs.laws.the_last_are_kept_whatever_becomes_of_a_run.Goals as goal

pub returns : goal.returns
returns c = lasts_kept
