-- Two lists, each of whose members are in a relation with those of the other at the same place.
use Rattle.std.proofs.Common.{◌≡◌, ◌+◌, ◌<◌, ℕ, List, [], ◌∷◌, ◌++◌, length, map, take, get_or}
use Rattle.std.proofs.lemmas.List.{map_more}
use Rattle.uefi_text.specs.Bytes.{Each}

-- one more on either side
each_more : {X Y : Type 0} (R : X → Y → Type 0) (xs : List X) (ys : List Y) (x : X) (y : Y) → Each R xs ys → R x y → Each R (xs ++ x ∷ []) (ys ++ y ∷ [])
each_more R [] [] x y h g = (g, tt)
each_more R [] (_ ∷ _) x y h g = absurd h
each_more R (_ ∷ _) [] x y h g = absurd h
each_more R (p ∷ xs) (q ∷ ys) x y h g = (h.0, each_more R xs ys x y h.1 g)

-- one more of what is made of a list, member by member
pub each_step : {X Y Z : Type 0} (f : X → Z) (R : Z → Y → Type 0) (xs : List X) (ys all : List Y) (i : ℕ) (d : X) (y : Y) →
    i < length xs → Each R (map f (take i xs)) ys → R (f (get_or xs i d)) y → all ≡ ys ++ y ∷ [] → Each R (map f (take (i + 1) xs)) all
each_step f R xs ys all i d y within each more is =
    rw (is, map_more f xs i d within) (each_more R (map f (take i xs)) ys (f (get_or xs i d)) y each more)
