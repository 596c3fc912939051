-- Runs of edits: why they are refused.
use Rattle.boot_journal.specs.Cause.{IfRefused}
use Rattle.boot_journal.specs.declared.machine.CallError.{CallError}
use Rattle.boot_journal.specs.declared.machine.CallError.TheVariants.{OutOfMemory, Refused}

pub refused_weaker : {E : Type 0} (error : CallError E) (P Q : E → Type 0) → ((reason : E) → P reason → Q reason) → IfRefused error P → IfRefused error Q
refused_weaker OutOfMemory P Q h p = p
refused_weaker (Refused reason) P Q h p = h reason p
