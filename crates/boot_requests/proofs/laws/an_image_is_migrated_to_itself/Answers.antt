use Rattle.boot_requests.proofs.Variables.Images.{image_opens, migrated_same}
use Rattle.boot_requests.proofs.laws.an_image_is_migrated_to_itself.Goals as goal

pub returns-clause-opens : goal.returns-clause-opens
returns-clause-opens c = image_opens

pub returns-clause-same : goal.returns-clause-same
returns-clause-same c = λ m vars is image. migrated_same m vars image
