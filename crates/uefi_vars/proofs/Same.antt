-- What `==` says of variables.
use Rattle.std.proofs.Common.{◌≡◌, ℕ, Bool, ◌&&◌, List, [], ◌∷◌, map, Decides, refl, ap}
use Rattle.std.specs.Cmp.Lexicographic.{pointwise}
use Rattle.std.specs.FinMap.{entries, same_entries_map}
use Rattle.std.proofs.lemmas.Bool.Decides.{Decides-and}
use Rattle.std.proofs.lemmas.Slice.Eq.{bytes_eq-Decides, slice_eq-Decides}
use Rattle.uefi_vars.specs.Vars.{Variables}
use Rattle.uefi_vars.specs.Equality.{pair_eq, vars_eq}

-- items compare as what is made of them
pub pointwise-map : {A E : Type 0} (f : A → E) (F : E → E → Bool) (xs ys : List A) → pointwise (λ x y. F (f x) (f y)) xs ys ≡ pointwise F (map f xs) (map f ys)
pointwise-map f F [] [] = refl
pointwise-map f F [] (y ∷ ys) = refl
pointwise-map f F (x ∷ xs) [] = refl
pointwise-map f F (x ∷ xs) (y ∷ ys) = ap (λ rest. F (f x) (f y) && rest) (pointwise-map f F xs ys)

pair_eq-Decides : (p q : List ℕ × List ℕ) → Decides (pair_eq p q) (p ≡ q)
pair_eq-Decides p q =
    let parts = Decides-and _ _ (bytes_eq-Decides p.0 q.0) (bytes_eq-Decides p.1 q.1) in
    (λ yes. let same = parts.0 yes in λ i. (same.0 i, same.1 i), λ e. parts.1 (ap (λ r. r.0) e, ap (λ r. r.1) e))

pub vars_eq-Decides : (a b : Variables) → Decides (vars_eq a b) (a ≡ b)
vars_eq-Decides a b =
    let pairs = slice_eq-Decides pair_eq-Decides (entries a) (entries b) (vars_eq a b) refl in
    (λ yes. same_entries_map a b (pairs.0 yes), λ e. pairs.1 (ap entries e))
