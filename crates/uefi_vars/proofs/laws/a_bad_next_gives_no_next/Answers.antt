use Rattle.uefi_vars.proofs.Next.{next_is_not_bad}
use Rattle.uefi_vars.proofs.laws.a_bad_next_gives_no_next.Goals as goal

pub returns : goal.returns
returns c = λ vars next bad has. next_is_not_bad vars next has bad
