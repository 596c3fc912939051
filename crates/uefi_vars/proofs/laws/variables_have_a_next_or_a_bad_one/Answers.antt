use Rattle.uefi_vars.proofs.Next.{next_or_bad}
use Rattle.uefi_vars.proofs.laws.variables_have_a_next_or_a_bad_one.Goals as goal

pub returns : goal.returns
returns c = next_or_bad c.bytes_are_written_again.ensures
