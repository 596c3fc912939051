-- Where signature lists are.
use Rattle.std.proofs.Common.{◌≡◌, refl, List, [], ◌∷◌, map, ap}
use Rattle.efi_images.specs.Signatures.{list_parts}
use Rattle.efi_images.specs.declared.signatures.SignatureList.{SignatureList}
use Rattle.bootkeep_c.specs.Images.{list_places}

pub of_parts : (lists : List SignatureList) → map (λ (list : SignatureList). list_places (list_parts list)) lists ≡ map list_places (map list_parts lists)
of_parts [] = refl
of_parts (first ∷ others) = ap (λ all. list_places (list_parts first) ∷ all) (of_parts others)
