use Rattle.std.proofs.Common.{◌≡◌}
use Rattle.uefi_vars.specs.BootChange.{is_boot_name}
use Rattle.uefi_vars.specs.Iter.{variables_left}
use Rattle.boot_edits.proofs.Taken.{IsGoing}
use Rattle.boot_edits.proofs.restore.copy_those.Given as goal

-- the names of the other kind are skipped
abbrev pub invariant-loop-name : goal.invariant-loop-name
invariant-loop-name l = IsGoing (λ name. is_boot_name name ≡ l.boot → ⊥) l.fn.vars l.from (variables_left l.name-iterator) l.vars
