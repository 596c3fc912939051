-- It is a list of one event.
use Rattle.std.proofs.Common.{◌∷◌, []}
use Rattle.boot_journal.specs.Events.{Undoes, world}
use Rattle.boot_journal.proofs.Next.{next_of_all}
use Rattle.boot_journal.proofs.laws.no_settling_after_a_start_sets_boot_next.Goals as goal

pub returns : goal.returns
returns c = λ boot s moves back other. next_of_all (world boot s) (Undoes moves back ∷ []) other tt
