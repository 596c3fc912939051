-- Lists of signatures, as they are read one after the other.
use Rattle.std.proofs.Common.{◌≡◌, refl, ℕ, ◌≤◌, List, [], ◌∷◌, ◌++◌, length, map, ap, subst, arith}
use Rattle.efi_images.specs.Signatures.{ListParts, list_parts, HasLists, at_end}
use Rattle.efi_images.specs.declared.signatures.SignatureList.{SignatureList}

pub grown : (before : List SignatureList) (one : SignatureList) (others : List ListParts)
    → map list_parts (before ++ (one ∷ [])) ++ others ≡ map list_parts before ++ (list_parts one ∷ others)
grown [] one others = refl
grown (first ∷ before) one others = ap (λ all. list_parts first ∷ all) (grown before one others)

pub ended : (bytes : List ℕ) (place : ℕ) → place ≤ length bytes → length bytes ≤ place → HasLists bytes place []
ended bytes place most least =
    let e : length bytes ≡ place = omega arith in
    subst (λ at. HasLists bytes at []) e at_end
