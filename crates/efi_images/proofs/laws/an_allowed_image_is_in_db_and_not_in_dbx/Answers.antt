use Rattle.efi_images.proofs.Allowing.{image_allowed}
use Rattle.efi_images.proofs.laws.an_allowed_image_is_in_db_and_not_in_dbx.Goals as goal

pub returns : goal.returns
returns c = image_allowed
