use Rattle.std.proofs.Common.{◌∙◌, ap}
use Rattle.sha2.specs.Sha256.{sha256}
use Rattle.efi_images.specs.Digest.{range_bytes}
use Rattle.efi_images.proofs.digest.image_digest.Goals as goal

pub returns-clause-digest : goal.returns-clause-digest
returns-clause-digest c =
    let file = c.args.file.now in
    let told = c.in_ok-ranges.ensures.ranges in (
      told.0,
      record {
        ranges = c.in_ok-ranges.ranges.items;
        are_ranges = told.1;
        is = c.digest_of.ensures ∙ ap (λ ranges. sha256 (range_bytes file ranges)) c.deref.ensures.value;
      },
    )
