use Rattle.std.proofs.Common.{map, take}
use Rattle.uefi_text.specs.Bytes.{Each}
use Rattle.uefi_vars.specs.BootChange.{change_parts}
use Rattle.bootkeep_c.specs.Changes.{TellsIfBoot}
use Rattle.bootkeep_c.proofs.change.numbers_of.Given as goal

abbrev pub invariant-loop-change : goal.invariant-loop-change
invariant-loop-change l = Each TellsIfBoot (map change_parts (take l.change-index l.changes)) l.told.items
