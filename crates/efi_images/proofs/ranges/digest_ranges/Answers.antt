use Rattle.std.proofs.Common.{◌∙◌}
use Rattle.efi_images.proofs.Fronts.{told_fault, told_ranges, all_within, second}
use Rattle.efi_images.proofs.ranges.digest_ranges.Goals as goal

pub returns-in-Ok-clause-read : goal.returns-in-Ok-clause-read
returns-in-Ok-clause-read c =
    let len = c.args.len in
    let front = c.args.front.now in
    let held = c.in_default.ensures.held in
    let told = c.in-Ok.ensures.ranges in
    let ranges = c.in-Ok.ranges.items in (
      all_within len front ranges told.0 told.1,
      λ rest e. (told_fault len front rest held e ∙ told.0, told_ranges len front rest ranges held told.0 told.1),
    )

pub returns-in-Err-clause-fault : goal.returns-in-Err-clause-fault
returns-in-Err-clause-fault c =
    second c.in-Err.ensures.fault (λ is rest e. told_fault c.args.len c.args.front.now rest c.in_default.ensures.held e ∙ is)
