use Rattle.std.proofs.Common.{◌≡◌, drop}
use Rattle.uefi_names.specs.Nearest.{near_of, nearest_of_rows}
use Rattle.uefi_names.proofs.nearest.nearest_of_rows.Given as goal

abbrev pub invariant-loop-row : goal.invariant-loop-row
invariant-loop-row l =
    nearest_of_rows l.text (near_of l.near) (drop l.row-index l.rows)
    ≡ nearest_of_rows l.text (near_of l.before) l.rows
