use Rattle.std.proofs.Common.{◌≡◌}
use Rattle.efi_images.specs.Sections.{sections}
use Rattle.efi_images.specs.Debug.{file_place}
use Rattle.efi_images.proofs.Rows.{from}
use Rattle.efi_images.proofs.debug.file_place.Given as goal

abbrev pub invariant-loop-index : goal.invariant-loop-index
invariant-loop-index l = file_place (sections l.headers) l.address ≡ file_place (from l.headers l.index) l.address
