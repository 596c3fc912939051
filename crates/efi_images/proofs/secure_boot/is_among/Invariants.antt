use Rattle.std.proofs.Common.{◌≡◌, ◌-◌, ◌*◌, ◌/◌, length}
use Rattle.efi_images.specs.SecureBoot.{is_among}
use Rattle.efi_images.proofs.secure_boot.is_among.Given as goal

abbrev pub invariant-loop : goal.invariant-loop
invariant-loop l =
    (l.place ≡ 48 * l.counter)
    × (is_among l.digest l.signatures 0 (length l.signatures / 48) ≡ is_among l.digest l.signatures l.place (length l.signatures / 48 - l.counter))
