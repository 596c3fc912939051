use Rattle.std.proofs.Common.{◌≡◌, ◌-◌, map}
use Rattle.efi_images.specs.X509.{certificate_parts, in_front, bundled}
use Rattle.efi_images.proofs.signers.add_bundle.Given as goal

abbrev pub invariant-loop : goal.invariant-loop
invariant-loop l =
    in_front (map certificate_parts l.all.items) (bundled (32 - l.counter) l.rest)
    ≡ in_front (map certificate_parts l.fn.all.items) (bundled 32 l.bundle)
