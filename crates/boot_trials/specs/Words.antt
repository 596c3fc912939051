-- The words of faults.
use Rattle.std.specs.Prelude.{ℕ, List, ◌++◌, codes}
use Rattle.uefi_vars.specs.Words.{set_fault_words}
use Rattle.boot_trials.specs.declared.fault.TrialFault.{TrialFault}
use Rattle.boot_trials.specs.declared.fault.TrialFault.TheVariants.{NoSet, NoTrial, OutOfMemory}

abbrev pub trial_fault_words : TrialFault → List ℕ
trial_fault_words (NoSet fault) = codes "NoSet " ++ set_fault_words fault
trial_fault_words NoTrial = codes "NoTrial"
trial_fault_words OutOfMemory = codes "OutOfMemory"
