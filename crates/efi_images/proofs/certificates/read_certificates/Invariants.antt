use Rattle.std.proofs.Common.{ℕ, ◌-◌, ◌≤◌, length, Result}
use Rattle.efi_images.specs.Certificates.{IsSigned}
use Rattle.efi_images.specs.declared.certificates.Signing.{Signing}
use Rattle.efi_images.specs.declared.certificates.Signing.TheVariants as signing
use Rattle.efi_images.proofs.certificates.read_certificates.Given as goal

abbrev pub invariant-loop-place : goal.invariant-loop-place
invariant-loop-place l =
    (l.place ≤ length l.table)
    × ((answer : Result Signing ℕ) → IsSigned l.table l.found l.place answer → IsSigned l.table signing.Unsigned 0 answer)

abbrev pub decreases-loop-place : goal.decreases-loop-place
decreases-loop-place l = length l.table - l.place
