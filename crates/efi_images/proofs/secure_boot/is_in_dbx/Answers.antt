use Rattle.efi_images.proofs.Answered.{looked_for}
use Rattle.efi_images.proofs.secure_boot.is_in_dbx.Goals as goal

pub returns-in_default : goal.returns-in_default
returns-in_default c =
    looked_for c.args.digest.now c.args.signed c.args.dbx.now c.has_digest.result c.has_digest.ensures c.in_default.not-Other
