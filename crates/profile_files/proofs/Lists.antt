-- A relation that holds of each two at one place of two lists, as they grow.
use Rattle.std.proofs.Common.{◌≡◌, ℕ, ◌+◌, ◌<◌, ◌≤◌, List, [], ◌∷◌, ◌++◌, take, length, sym, subst, ◌∙◌}
use Rattle.std.proofs.Math.ListN.{get_or}
use Rattle.std.proofs.lemmas.List.{take_more, take_all}
use Rattle.uefi_text.specs.Bytes.{Each}

each_more : {X Y : Type 0} (R : X → Y → Type 0) (xs : List X) (ys : List Y) (x : X) (y : Y)
    → Each R xs ys → R x y → Each R (xs ++ x ∷ []) (ys ++ y ∷ [])
each_more R [] [] x y all here = (here, tt)
each_more R [] (_ ∷ _) x y all here = absurd all
each_more R (_ ∷ _) [] x y all here = absurd all
each_more R (a ∷ xs) (b ∷ ys) x y all here = (all.0, each_more R xs ys x y all.1 here)

-- one more is taken
pub each_taken : {X Y : Type 0} (R : X → Y → Type 0) (xs : List X) (i : ℕ) (x : X) (ys more : List Y) (y : Y)
    → Each R (take i xs) ys → i < length xs → x ≡ get_or xs i x → R x y → more ≡ ys ++ y ∷ [] → Each R (take (i + 1) xs) more
each_taken {X} {Y} R xs i x ys more y all within is here grown =
    subst (λ (them : List Y). Each R (take (i + 1) xs) them) (sym grown)
    (subst (λ (them : List X). Each R them (ys ++ y ∷ [])) (sym (take_more xs i x within))
    (each_more R (take i xs) ys (get_or xs i x) y all (subst (λ (z : X). R z y) is here)))

-- all are taken
pub each_done : {X Y : Type 0} (R : X → Y → Type 0) (xs zs : List X) (i : ℕ) (ys : List Y)
    → Each R (take i xs) ys → length xs ≤ i → xs ≡ zs → Each R zs ys
each_done {X} {Y} R xs zs i ys all past same =
    subst (λ (them : List X). Each R them ys) (take_all i xs past ∙ same) all
