use Rattle.std.proofs.Common.{take}
use Rattle.uefi_text.specs.Bytes.{Each}
use Rattle.profile_files.specs.Values.{IsName}
use Rattle.profile_files.proofs.values.names_of.Given as goal

abbrev pub invariant-loop-item : goal.invariant-loop-item
invariant-loop-item l = Each IsName (take l.item-index l.item-items) l.names.items
