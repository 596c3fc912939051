use Rattle.std.proofs.Common.{◌≡◌, ◌+◌, ◌*◌, ◌<◌}
use Rattle.std.specs.List.{sum_by}
use Rattle.efi_images.specs.Digest.{total_size}
use Rattle.efi_images.specs.declared.section.Section.{Section}
use Rattle.efi_images.proofs.Rows.{from}
use Rattle.efi_images.proofs.ranges.total_size.Given as goal

abbrev pub invariant-loop-index : goal.invariant-loop-index
invariant-loop-index l =
    (l.total < 4294967296 * (l.index + 1))
    × (l.total + sum_by (λ (s : Section). s.raw_size) (from l.headers l.index) ≡ total_size l.headers)
