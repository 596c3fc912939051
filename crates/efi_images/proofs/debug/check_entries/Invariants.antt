use Rattle.std.proofs.Common.{◌≡◌, ◌+◌, ◌-◌, ◌≤◌, length}
use Rattle.efi_images.specs.Check.{first_fault}
use Rattle.efi_images.specs.Debug.{debug_entry_checks, first_code_view}
use Rattle.efi_images.proofs.debug.check_entries.Given as goal

abbrev pub invariant-loop : goal.invariant-loop
invariant-loop l =
    (l.place ≤ 4294967296 + length l.file)
    × (first_fault (debug_entry_checks l.file l.start l.count) ≡ first_fault (debug_entry_checks l.file l.place (l.count - l.counter)))
    × (first_code_view l.file l.start l.count ≡ first_code_view l.file l.place (l.count - l.counter))
