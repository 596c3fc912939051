use Rattle.std.proofs.Common.{◌≡◌, ◌++◌}
use Rattle.efi_images.specs.Sections.{sections}
use Rattle.efi_images.proofs.Rows.{from}
use Rattle.efi_images.proofs.ranges.all_sections.Given as goal

abbrev pub invariant-loop-index : goal.invariant-loop-index
invariant-loop-index l = l.all.items ++ from l.headers l.index ≡ sections l.headers
