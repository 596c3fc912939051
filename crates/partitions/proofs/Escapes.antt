-- Fields in which bytes are written as digits.
use Rattle.std.proofs.Common.{◌≡◌, ◌≢◌, ◌<◌, ℕ, false, eqb, List, [], ◌∷◌, ◌++◌, length, refl, ap, sym, ◌∙◌, arith, append_assoc}
use Rattle.std.proofs.lemmas.List.{append-nil}
use Rattle.std.specs.Prelude.{Option, Some, None}
use Rattle.std.proofs.lemmas.Bool.Decides.{nat_tests}
use Rattle.partitions.specs.Escape.{unescaped, in_front}

-- what was read before, in front of the rest
abbrev pub behind : List ℕ → Option (List ℕ) → Option (List ℕ)
behind front None = None
behind front (Some rest) = Some (front ++ rest)

pub behind_nothing : (rest : Option (List ℕ)) → behind [] rest ≡ rest
behind_nothing None = refl
behind_nothing (Some rest) = refl

pub behind_more : (front : List ℕ) (byte : ℕ) (rest : Option (List ℕ)) → behind front (in_front (Some byte) rest) ≡ behind (front ++ byte ∷ []) rest
behind_more front byte None = refl
behind_more front byte (Some rest) = ap (λ (bytes : List ℕ). Some bytes) (sym (append_assoc front (byte ∷ []) rest))

pub behind_end : (front : List ℕ) → behind front (unescaped []) ≡ Some front
behind_end front = ap (λ (bytes : List ℕ). Some bytes) (append-nil front)

-- a byte that stands for itself
pub unescaped_plain : (byte : ℕ) (rest : List ℕ) → byte ≢ 92 → unescaped (byte ∷ rest) ≡ in_front (Some byte) (unescaped rest)
unescaped_plain byte [] h = let other : eqb byte 92 ≡ false = grind (arith, nat_tests) in rw other refl
unescaped_plain byte (a ∷ []) h = let other : eqb byte 92 ≡ false = grind (arith, nat_tests) in rw other refl
unescaped_plain byte (a ∷ b ∷ []) h = let other : eqb byte 92 ≡ false = grind (arith, nat_tests) in rw other refl
unescaped_plain byte (a ∷ b ∷ c ∷ rest) h = let other : eqb byte 92 ≡ false = grind (arith, nat_tests) in rw other refl

-- a backslash without three bytes after it
pub unescaped_short : (rest : List ℕ) → length rest < 3 → unescaped (92 ∷ rest) ≡ None
unescaped_short [] h = refl
unescaped_short (a ∷ []) h = refl
unescaped_short (a ∷ b ∷ []) h = refl
unescaped_short (a ∷ b ∷ c ∷ rest) h = absurd (omega (arith, h))

-- a byte more is read
pub unescaped_more : (front rest others : List ℕ) (first byte : ℕ) (after : List ℕ) (all : Option (List ℕ)) → behind front (unescaped rest) ≡ all
    → rest ≡ first ∷ others → unescaped (first ∷ others) ≡ in_front (Some byte) (unescaped after) → behind (front ++ byte ∷ []) (unescaped after) ≡ all
unescaped_more front rest others first byte after all so_far parts step =
    sym (behind_more front byte (unescaped after))
    ∙ ap (λ (o : Option (List ℕ)). behind front o) (sym step ∙ ap unescaped (sym parts)) ∙ so_far
