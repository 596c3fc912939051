use Rattle.std.proofs.Common.{sym}
use Rattle.uefi_names.specs.Nearest.{near_of}
use Rattle.uefi_names.proofs.NearestNames.{far}
use Rattle.uefi_names.proofs.nearest.nearer.Goals as goal

pub returns-then-abs_diff-near : goal.returns-then-abs_diff-near
returns-then-abs_diff-near c =
    far c.args.text.now (near_of c.args.near) c.args.name.now (rw (sym c.abs_diff.ensures) c.if-abs_diff-near.true)
