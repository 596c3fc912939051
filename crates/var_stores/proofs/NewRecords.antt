-- The bytes of new records.
use Rattle.std.proofs.Common.{◌≡◌, ℕ, suc, ◌+◌, ◌-◌, ◌<◌, List, [], ◌∷◌, ◌++◌, ap, ◌∙◌, append_assoc, arith}
use Rattle.std.proofs.Math.ListN.{replicate}

-- a header that was appended piece by piece
pub head_appended : (old a z n v g : List ℕ) → (((((old ++ (0xAA ∷ 0x55 ∷ 0x3F ∷ 0 ∷ [])) ++ a) ++ z) ++ n) ++ v) ++ g ≡ old
    ++ (0xAA ∷ 0x55 ∷ 0x3F ∷ 0 ∷ (a ++ (z ++ (n ++ (v ++ g)))))
head_appended old a z n v g =
    let first = old ++ (0xAA ∷ 0x55 ∷ 0x3F ∷ 0 ∷ []) in
    append_assoc (((first ++ a) ++ z) ++ n) v g ∙ append_assoc ((first ++ a) ++ z) n (v ++ g)
    ∙ append_assoc (first ++ a) z (n ++ (v ++ g)) ∙ append_assoc first a (z ++ (n ++ (v ++ g)))
    ∙ append_assoc old (0xAA ∷ 0x55 ∷ 0x3F ∷ 0 ∷ []) (a ++ (z ++ (n ++ (v ++ g))))

-- and what follows it
pub record_appended : (old header name value padding : List ℕ) →
    (((old ++ (0xAA ∷ 0x55 ∷ 0x3F ∷ header)) ++ name) ++ value) ++ padding ≡ old ++ (0xAA ∷ 0x55 ∷ 0x3F ∷ (header ++ (name ++ (value ++ padding))))
record_appended old header name value padding =
    let first = old ++ (0xAA ∷ 0x55 ∷ 0x3F ∷ header) in
    append_assoc (first ++ name) value padding ∙ append_assoc first name (value ++ padding)
    ∙ append_assoc old (0xAA ∷ 0x55 ∷ 0x3F ∷ header) (name ++ (value ++ padding))

-- a byte more of the padding
pub one_more : (old : List ℕ) (n m : ℕ) → n < m → (old ++ (0xFF ∷ [])) ++ replicate (m - (n + 1)) 0xFF ≡ old ++ replicate (m - n) 0xFF
one_more old n m below =
    append_assoc old (0xFF ∷ []) (replicate (m - (n + 1)) 0xFF)
    ∙ ap (λ (k : ℕ). old ++ replicate k 0xFF) (let left : suc (m - (n + 1)) ≡ m - n = omega (arith, below) in left)
