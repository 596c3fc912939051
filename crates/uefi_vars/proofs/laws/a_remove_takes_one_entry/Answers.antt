use Rattle.std.proofs.Common.{sym}
use Rattle.uefi_vars.specs.Name.{entry_text}
use Rattle.uefi_vars.proofs.Names.{names_apart, get-remove_here, get-remove_apart}
use Rattle.uefi_vars.proofs.laws.a_remove_takes_one_entry.Goals as goal

pub returns-clause-here : goal.returns-clause-here
returns-clause-here c = λ vars k. get-remove_here vars (entry_text k)

pub returns-clause-others : goal.returns-clause-others
returns-clause-others c = λ vars k n p q differ. get-remove_apart vars (entry_text k) (entry_text n) (λ e. differ (names_apart n k q p (sym e)))
