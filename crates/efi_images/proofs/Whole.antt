-- A certificate that is whole.
use Rattle.std.proofs.Common.{◌≡◌, ℕ, ◌+◌, ◌<◌, ◌≤◌, true, List, length, IsTrue, Ok, if◌then◌else◌, subst, arith}
use Rattle.efi_images.specs.Certificates.{is_whole, has_guid, certificate_len, padded_len, IsSigned, at_end}
use Rattle.efi_images.specs.declared.certificates.Signing.{Signing}

pub parts : (table : List ℕ) (place : ℕ) → IsTrue (is_whole table place)
    → (place + 8 < length table)
    × ((if has_guid table place then 24 else 8) < certificate_len table place)
    × (place + padded_len table place ≤ length table)
unfolding is_whole
parts table place e = grind arith

pub within : (table : List ℕ) (place : ℕ) → IsTrue (is_whole table place) → place + 8 < length table
within table place e = (parts table place e).0

pub plain_len : (table : List ℕ) (place : ℕ) → IsTrue (is_whole table place) → 8 < certificate_len table place
plain_len table place e = let p = (parts table place e).1 in grind arith

pub guid_len : (table : List ℕ) (place : ℕ) → IsTrue (is_whole table place) → has_guid table place ≡ true → 24 < certificate_len table place
guid_len table place e g = let p = (parts table place e).1 in grind arith

-- it has bytes
pub padded : (table : List ℕ) (place : ℕ) → IsTrue (is_whole table place) → 0 < padded_len table place
padded table place e = omega (arith, plain_len table place e)

-- none is left
pub ended : (table : List ℕ) (place : ℕ) (before : Signing) → place ≤ length table → length table ≤ place → IsSigned table before place (Ok before)
ended table place before most least =
    let e : length table ≡ place = omega arith in
    subst (λ at. IsSigned table before at (Ok before)) e at_end
