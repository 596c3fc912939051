use Rattle.efi_images.proofs.Told.{told_of, told_from, all_hold, none_told}
use Rattle.efi_images.proofs.laws.the_first_check_that_does_not_hold_is_told.Goals as goal

pub returns-clause-fault : goal.returns-clause-fault
returns-clause-fault c = λ checks fault. (told_of checks fault, told_from checks fault)

pub returns-clause-none : goal.returns-clause-none
returns-clause-none c = λ checks. (all_hold checks, none_told checks)
