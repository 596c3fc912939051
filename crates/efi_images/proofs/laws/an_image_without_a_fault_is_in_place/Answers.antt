use Rattle.efi_images.proofs.Passing.{image_in_place}
use Rattle.efi_images.proofs.laws.an_image_without_a_fault_is_in_place.Goals as goal

pub returns : goal.returns
returns c = image_in_place
