use Rattle.std.proofs.Common.{◌≡◌, map, take}
use Rattle.efi_images.specs.declared.signatures.SignatureList.{SignatureList}
use Rattle.efi_images.specs.Signatures.{list_parts}
use Rattle.bootkeep_c.specs.Images.{list_places}
use Rattle.bootkeep_c.proofs.lists.places_of.Given as goal

abbrev pub invariant-loop-list : goal.invariant-loop-list
invariant-loop-list l = l.places.items ≡ map (λ (list : SignatureList). list_places (list_parts list)) (take l.list-index l.lists)
