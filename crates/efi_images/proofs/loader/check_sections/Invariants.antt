use Rattle.std.proofs.Common.{◌≡◌}
use Rattle.std.specs.List.{flat_map}
use Rattle.efi_images.specs.Sections.{sections}
use Rattle.efi_images.specs.Check.{first_fault}
use Rattle.efi_images.specs.Checks.{section_checks}
use Rattle.efi_images.proofs.Rows.{told_from}
use Rattle.efi_images.proofs.loader.check_sections.Given as goal

abbrev pub invariant-loop-index : goal.invariant-loop-index
invariant-loop-index l =
    first_fault (flat_map (section_checks l.len l.headers) (sections l.headers)) ≡ told_from (section_checks l.len l.headers) l.headers l.index
