use Rattle.std.proofs.Common.{take}
use Rattle.uefi_text.specs.Bytes.{Each}
use Rattle.profile_files.specs.Entries.{IsEntry}
use Rattle.profile_files.proofs.document.entries_in.Given as goal

abbrev pub invariant-loop-item : goal.invariant-loop-item
invariant-loop-item l = Each IsEntry (take l.item-index l.item-items) l.entries.items
