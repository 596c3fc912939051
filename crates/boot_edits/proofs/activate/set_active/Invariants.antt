use Rattle.std.proofs.Common.{take}
use Rattle.std.specs.Option.{option_map}
use Rattle.uefi_vars.specs.Vars.{entry_of}
use Rattle.boot_edits.specs.Parts.{parts_of, Becomes, entries_changed}
use Rattle.boot_edits.specs.Switch.{switched}
use Rattle.boot_edits.proofs.activate.set_active.Given as goal

-- the entries of the numbers so far are switched
abbrev pub invariant-loop-number : goal.invariant-loop-number
invariant-loop-number l =
    Becomes l.vars (record (parts_of l.vars) {
      entries = entries_changed (take l.number-index l.numbers)
          (option_map (switched l.active)) (entry_of l.vars);
    }) l.edited
