use Rattle.boot_requests.specs.StateOf.{image_of}
use Rattle.boot_requests.proofs.Variables.Images.{image_valid, image_is, keep_is_name}
use Rattle.boot_requests.proofs.laws.each_state_has_an_image.Goals as goal

pub returns : goal.returns
returns c = λ m is.
    let names = c.boot_names_are_names.ensures in
    (image_of m, image_valid names.entry names.order names.next keep_is_name c.units_have_two_bytes_each.ensures m is, image_is m)
