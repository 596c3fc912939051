use Rattle.std.proofs.Common.{◌≡◌, drop, map}
use Rattle.uefi_names.specs.Nearest.{near_of, nearest_of}
use Rattle.uefi_names.proofs.nearest.nearest_of.Given as goal

abbrev pub invariant-loop-name : goal.invariant-loop-name
invariant-loop-name l =
    nearest_of l.text (near_of l.near) (map (λ name. name.now) (drop l.name-index l.names))
    ≡ nearest_of l.text (near_of l.before) (map (λ name. name.now) l.names)
