-- A digest among signatures.
use Rattle.std.proofs.Common.{◌≡◌, refl, ℕ, suc, ◌+◌, ◌-◌, ◌<◌, ◌≤◌, ◌==◌, ◌||◌, Bool, true, false, List, ◌∙◌, ap, arith}
use Rattle.std.specs.Cmp.Lexicographic.{pointwise}
use Rattle.efi_images.specs.Digest.{part}
use Rattle.efi_images.specs.SecureBoot.{is_among}

-- the signature at this offset is of the digest
abbrev pub is_here : List ℕ → List ℕ → ℕ → Bool
is_here digest signatures place = pointwise ◌==◌ (part signatures (place + 16) 32) digest

pub step : (digest signatures : List ℕ) (place count counter : ℕ) → counter < count
    → is_among digest signatures place (count - counter) ≡ (is_here digest signatures place || is_among digest signatures (place + 48) (count - (counter + 1)))
step digest signatures place count counter below =
    let e : count - counter ≡ suc (count - (counter + 1)) = omega arith in
    rw e refl

pub here : (digest signatures : List ℕ) (place count counter : ℕ) → counter < count → is_here digest signatures place ≡ true
    → is_among digest signatures place (count - counter) ≡ true
here digest signatures place count counter below is =
    step digest signatures place count counter below ∙ ap (λ b. b || is_among digest signatures (place + 48) (count - (counter + 1))) is

pub after : (digest signatures : List ℕ) (place count counter : ℕ) → counter < count → is_here digest signatures place ≡ false
    → is_among digest signatures place (count - counter) ≡ is_among digest signatures (place + 48) (count - (counter + 1))
after digest signatures place count counter below is =
    step digest signatures place count counter below ∙ ap (λ b. b || is_among digest signatures (place + 48) (count - (counter + 1))) is

pub none_left : (digest signatures : List ℕ) (place count counter : ℕ) → count ≤ counter → is_among digest signatures place (count - counter) ≡ false
none_left digest signatures place count counter most =
    let e : count - counter ≡ 0 = omega arith in
    rw e refl
