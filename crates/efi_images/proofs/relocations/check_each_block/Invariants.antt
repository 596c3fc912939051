use Rattle.std.proofs.Common.{◌≡◌, ◌-◌, ◌≤◌}
use Rattle.efi_images.specs.Check.{first_fault}
use Rattle.efi_images.specs.Relocations.{blocks_checks}
use Rattle.efi_images.proofs.relocations.check_each_block.Given as goal

abbrev pub invariant-loop : goal.invariant-loop
invariant-loop l =
    (l.offset ≤ l.size)
    × (first_fault (blocks_checks l.headers l.loaded l.size 0 l.size)
    ≡ first_fault (blocks_checks l.headers l.loaded l.size l.offset (l.size - l.counter)))
