-- Data that are made of bits.
use Rattle.std.proofs.Common.{◌≡◌, ◌≤◌, ℕ, suc, List, [], ◌∷◌, length, refl, arith, ltb, false}
use Rattle.std.proofs.lemmas.Bool.Decides.{nat_tests}
use Rattle.uefi_names.specs.Read.{with_bits}

-- no bits are set after the end
pub bits_behind : (at : ℕ) (bits body : List ℕ) → length body ≤ at → with_bits at bits body ≡ body
bits_behind at [] body past = refl
bits_behind at (one ∷ bits) body past =
    let beyond : ltb at (length body) ≡ false = grind (arith, nat_tests) in
    rw beyond (bits_behind (suc at) bits body (omega arith))
