use Rattle.std.proofs.Common.{◌≡◌, ◌+◌, ◌-◌, ◌*◌}
use Rattle.efi_images.specs.Check.{first_fault}
use Rattle.efi_images.specs.Relocations.{entries_checks}
use Rattle.efi_images.proofs.relocations.check_entries.Given as goal

abbrev pub invariant-loop : goal.invariant-loop
invariant-loop l =
    (l.offset ≡ l.start + 2 * l.counter)
    × (first_fault (entries_checks l.headers l.loaded l.address l.start l.count)
    ≡ first_fault (entries_checks l.headers l.loaded l.address l.offset (l.count - l.counter)))
