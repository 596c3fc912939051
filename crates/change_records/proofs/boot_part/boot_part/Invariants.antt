-- The variables so far that aren't the boot manager's are taken out.
use Rattle.uefi_vars.specs.Iter.{variables_left}
use Rattle.change_records.proofs.BootParts.{IsPartly}
use Rattle.change_records.proofs.boot_part.boot_part.Given as goal

abbrev pub invariant-loop-name : goal.invariant-loop-name
invariant-loop-name l = IsPartly l.vars l.part (variables_left l.name-iterator)
