use Rattle.std.proofs.Common.{◌∙◌, ap, map}
use Rattle.efi_images.specs.Signatures.{list_parts}
use Rattle.efi_images.specs.declared.signatures.SignatureList.{SignatureList}
use Rattle.bootkeep_c.specs.Images.{list_places}
use Rattle.bootkeep_c.proofs.PlacesOfLists.{of_parts}
use Rattle.bootkeep_c.proofs.lists.lists_of.Goals as goal

pub returns-clause-found : goal.returns-clause-found
returns-clause-found c =
    let lists = c.in_ok-lists.lists.items in (
      map list_parts lists,
      c.in_ok-lists.ensures.lists,
      c.in_ok-places_of.ensures ∙ ap (λ all. map (λ (list : SignatureList). list_places (list_parts list)) all) c.deref.ensures.value ∙ of_parts lists,
    )
