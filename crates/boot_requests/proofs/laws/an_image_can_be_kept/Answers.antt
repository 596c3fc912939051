use Rattle.boot_requests.proofs.Variables.Images.{image_opens, opened_has_no_fault}
use Rattle.boot_requests.proofs.laws.an_image_can_be_kept.Goals as goal

pub returns : goal.returns
returns c = λ m vars fault is image.
    opened_has_no_fault c.a_bad_order_gives_no_order.ensures c.a_bad_next_gives_no_next.ensures m vars fault (image_opens m vars is image)
