use Rattle.std.proofs.Common.{ℕ, ◌+◌, ◌/◌, ap}
use Rattle.std.specs.Prelude.{None}
use Rattle.uefi_names.proofs.NearestNames.{nearest_is}
use Rattle.uefi_names.proofs.nearest.nearest_name.Goals as goal

pub returns : goal.returns
returns c =
    let starts = ap (λ (most : ℕ). record { name = None; edits = most / 3 + 1 }) c.max.ensures in
    nearest_is c.args.table.now c.args.text.now _ _ _ _ starts c.profile_names.ensures c.in_ok-near.ensures c.in_ok-near-2.ensures
