use Rattle.std.proofs.Common.{◌≡◌, ◌≤◌, drop}
use Rattle.uefi_names.specs.Cut.{first_outside}
use Rattle.uefi_names.proofs.cut.first_outside.Given as goal

abbrev pub invariant-loop-index : goal.invariant-loop-index
invariant-loop-index l = record {
  same : first_outside l.mark l.depth l.index (drop l.index l.text) ≡ first_outside l.mark 0 0 l.text;
  low : l.depth ≤ l.index;
}
