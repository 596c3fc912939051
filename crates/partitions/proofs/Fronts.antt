-- Texts that begin with another one.
use Rattle.std.proofs.Common.{◌≡◌, ℕ, true, false, eqb, List, ◌++◌, length, take, drop, refl, ap, sym, ◌∙◌}
use Rattle.std.proofs.lemmas.Bool.{false≢true}
use Rattle.std.proofs.lemmas.Bool.Decides.{Decides-eqb}
use Rattle.std.proofs.lemmas.List.{take-append-drop}
use Rattle.std.proofs.lemmas.Slice.Eq.{slice_eq-Decides}
use Rattle.std.proofs.Math.Seq.{take-append_seam, drop-append_seam}
use Rattle.std.specs.Cmp.Lexicographic.{pointwise}
use Rattle.partitions.specs.Leading.{stem_of, IsInFolder}

pub same_from : (xs ys : List ℕ) → pointwise eqb xs ys ≡ true → xs ≡ ys
same_from xs ys e = (slice_eq-Decides Decides-eqb xs ys (pointwise eqb xs ys) refl).0 e

pub same_to : (xs ys : List ℕ) → xs ≡ ys → pointwise eqb xs ys ≡ true
same_to xs ys e = (slice_eq-Decides Decides-eqb xs ys (pointwise eqb xs ys) refl).1 e

-- a path that doesn't begin as one in the folder does
pub no_front : (folder path rest : List ℕ) → pointwise eqb (take (length (stem_of folder)) path) (stem_of folder) ≡ false → IsInFolder folder path rest → ⊥
no_front folder path rest other is =
    let front : take (length (stem_of folder)) path ≡ stem_of folder =
    ap (λ (xs : List ℕ). take (length (stem_of folder)) xs) is.parts ∙ take-append_seam (stem_of folder) rest in
    false≢true (sym other ∙ same_to (take (length (stem_of folder)) path) (stem_of folder) front)

-- what is behind the folder is one thing
pub one_rest : (folder path rest other : List ℕ) → rest ≡ drop (length (stem_of folder)) path → IsInFolder folder path other → other ≡ rest
one_rest folder path rest other is there =
    sym (drop-append_seam (stem_of folder) other) ∙ ap (λ (xs : List ℕ). drop (length (stem_of folder)) xs) (sym there.parts) ∙ sym is

-- one that does
pub with_front : (folder path rest : List ℕ) → pointwise eqb (take (length (stem_of folder)) path) (stem_of folder) ≡ true
    → rest ≡ drop (length (stem_of folder)) path → path ≡ stem_of folder ++ rest
with_front folder path rest same is =
    let front = same_from (take (length (stem_of folder)) path) (stem_of folder) same in
    sym (take-append-drop (length (stem_of folder)) path) ∙ ap (λ (xs : List ℕ). xs ++ drop (length (stem_of folder)) path) front
    ∙ ap (λ (xs : List ℕ). stem_of folder ++ xs) (sym is)
