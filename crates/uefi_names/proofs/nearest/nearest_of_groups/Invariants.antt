use Rattle.std.proofs.Common.{◌≡◌, drop}
use Rattle.uefi_names.specs.Nearest.{near_of, nearest_of_groups}
use Rattle.uefi_names.proofs.nearest.nearest_of_groups.Given as goal

abbrev pub invariant-loop-group : goal.invariant-loop-group
invariant-loop-group l =
    nearest_of_groups l.text (near_of l.near) (drop l.group-index l.groups)
    ≡ nearest_of_groups l.text (near_of l.before) l.groups
