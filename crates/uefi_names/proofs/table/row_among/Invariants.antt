use Rattle.std.proofs.Common.{◌≡◌, drop}
use Rattle.uefi_names.specs.Table.{row_among}
use Rattle.uefi_names.proofs.table.row_among.Given as goal

abbrev pub invariant-loop-group : goal.invariant-loop-group
invariant-loop-group l = row_among l.kind l.sub (drop l.group-index l.groups) ≡ row_among l.kind l.sub l.groups
