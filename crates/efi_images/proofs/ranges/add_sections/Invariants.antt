use Rattle.std.proofs.Common.{◌≡◌, ◌++◌, map, take}
use Rattle.efi_images.specs.Digest.{section_range}
use Rattle.efi_images.proofs.ranges.add_sections.Given as goal

abbrev pub invariant-loop-section : goal.invariant-loop-section
invariant-loop-section l = l.ranges.items ≡ l.initial.ranges.items ++ map section_range (take l.section-index l.order)
