use Rattle.std.proofs.Common.{◌≡◌, ◌-◌, ◌<◌}
use Rattle.efi_images.specs.Check.{first_fault}
use Rattle.efi_images.specs.Resources.{names_checks}
use Rattle.efi_images.proofs.resources.check_names.Given as goal

abbrev pub invariant-loop-index : goal.invariant-loop-index
invariant-loop-index l =
    (l.entries.offset < 4294967296)
    × (first_fault (names_checks l.file l.loaded l.size 0 l.fn.first l.size)
    ≡ first_fault (names_checks l.file l.loaded l.size l.index l.entries (l.size - l.index)))
