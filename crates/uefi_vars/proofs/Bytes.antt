-- Lists of bytes, by their indices and by recursion, lists at the start of lists, and what holds of each element.
use Rattle.std.proofs.Common.{◌≡◌, ◌⊎◌, ℕ, zero, suc, ◌<◌, List, [], ◌∷◌, ◌++◌, length, map, get_or, take, drop, refl, sym, ap, subst, ◌∙◌, inl, inr, arith}
use Rattle.std.specs.List.{AllByRecursion}
use Rattle.std.proofs.lemmas.List.{take_at, drop_at}
use Rattle.std.proofs.lemmas.List.Elements.{recursion_from_All, All-from_get_or}
use Rattle.uefi_path.specs.Row.{IsByte}

-- what the type of a slice of bytes says of its elements
abbrev pub IsBytes : List ℕ → Type 0
IsBytes bytes = (i : ℕ) → get_or bytes i 0 < 256

pub recursion_from_bytes : (bytes : List ℕ) → IsBytes bytes → AllByRecursion IsByte bytes
recursion_from_bytes bytes h = recursion_from_All IsByte bytes (All-from_get_or IsByte bytes 0 (λ i _. h i))

pub bytes_from_recursion : (bytes : List ℕ) → AllByRecursion IsByte bytes → IsBytes bytes
bytes_from_recursion [] h i = omega arith
bytes_from_recursion (b ∷ bytes) h zero = h.0
bytes_from_recursion (b ∷ bytes) h (suc i) = bytes_from_recursion bytes h.1 i

pub AllByRecursion-append : {X : Type 0} (P : X → Type 0) (xs ys : List X) → AllByRecursion P xs → AllByRecursion P ys → AllByRecursion P (xs ++ ys)
AllByRecursion-append P [] ys p q = q
AllByRecursion-append P (x ∷ xs) ys p q = (p.0, AllByRecursion-append P xs ys p.1 q)

pub AllByRecursion-first : {X : Type 0} (P : X → Type 0) (xs ys : List X) → AllByRecursion P (xs ++ ys) → AllByRecursion P xs
AllByRecursion-first P [] ys p = tt
AllByRecursion-first P (x ∷ xs) ys p = (p.0, AllByRecursion-first P xs ys p.1)

pub AllByRecursion-behind : {X : Type 0} (P : X → Type 0) (xs ys : List X) → AllByRecursion P (xs ++ ys) → AllByRecursion P ys
AllByRecursion-behind P [] ys p = p
AllByRecursion-behind P (x ∷ xs) ys p = AllByRecursion-behind P xs ys p.1

-- lists of one length at the start are one list
pub same_size : (a b x y : List ℕ) → length a ≡ length b → a ++ x ≡ b ++ y → (a ≡ b) × (x ≡ y)
same_size a b x y size e = (
  sym (take_at a x (length b) size) ∙ ap (take (length b)) e ∙ take_at b y (length b) refl,
  sym (drop_at a x (length b) size) ∙ ap (drop (length b)) e ∙ drop_at b y (length b) refl,
)

-- what each element has or hasn't, all have or not all
pub all_or_not : {X : Type 0} (P : X → Type 0) → ((x : X) → P x ⊎ (¬ P x)) → (xs : List X) → AllByRecursion P xs ⊎ (¬ AllByRecursion P xs)
all_or_not P decide [] = inl tt
all_or_not P decide (x ∷ xs) =
    elim (decide x) [
      | inl here ↦ elim (all_or_not P decide xs) [ inl all ↦ inl (here, all) | inr none ↦ inr (λ h. none h.1) ]
      | inr none ↦ inr (λ h. none h.0)
    ]

-- what all images have, that of an element has
pub all_at : {X Y : Type 0} (P : Y → Type 0) (f : X → Y) (xs : List X) (i : ℕ) (x : X) → AllByRecursion P (map f xs) →
    i < length xs → x ≡ get_or xs i x → P (f x)
all_at P f [] i x all within is = absurd (omega (arith, within))
all_at {X} P f (y ∷ xs) zero x all within is = subst (λ (z : X). P (f z)) (sym is) all.0
all_at P f (y ∷ xs) (suc i) x all within is = all_at P f xs i x all.1 (omega (arith, within)) is
