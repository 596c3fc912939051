use Rattle.boot_trials.proofs.Files.{one_trial}
use Rattle.boot_trials.specs.File.{trial_vars}
use Rattle.std.proofs.Common.{refl}
use Rattle.boot_trials.proofs.laws.bytes_spell_one_trial.Goals as goal

pub returns : goal.returns
returns c bytes a b p q =
    one_trial (trial_vars a) a b p.0 q.0 refl (c.bytes_spell_one_set.ensures bytes (trial_vars a) (trial_vars b) p.1 q.1)
