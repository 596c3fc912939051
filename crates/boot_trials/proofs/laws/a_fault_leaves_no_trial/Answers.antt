use Rattle.std.proofs.Common.{refl}
use Rattle.boot_trials.specs.File.{trial_vars}
use Rattle.boot_trials.specs.declared.fault.TrialFault.TheVariants.{NoSet, NoTrial, OutOfMemory}
use Rattle.boot_trials.proofs.laws.a_fault_leaves_no_trial.Goals as goal

pub returns : goal.returns
returns c bytes (NoSet fault) trial other is spelled = c.a_fault_leaves_no_set.ensures bytes fault (trial_vars trial) is spelled.1
returns c bytes NoTrial trial other is spelled = is.1 trial spelled
returns c bytes OutOfMemory trial other is spelled = absurd (other refl)
