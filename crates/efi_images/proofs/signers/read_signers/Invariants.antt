use Rattle.std.proofs.Common.{◌≡◌, ◌-◌, map}
use Rattle.efi_images.specs.X509.{certificate_parts, in_front}
use Rattle.efi_images.specs.Signers.{all_signers}
use Rattle.efi_images.proofs.signers.read_signers.Given as goal

abbrev pub invariant-loop : goal.invariant-loop
invariant-loop l =
    in_front (map certificate_parts l.all.items) (all_signers (32 - l.counter) l.table l.place) ≡ all_signers 32 l.table 0
