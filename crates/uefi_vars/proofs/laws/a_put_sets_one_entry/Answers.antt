use Rattle.std.proofs.Common.{sym}
use Rattle.uefi_vars.specs.Name.{entry_text}
use Rattle.uefi_vars.proofs.Names.{names_apart, get-insert_here, get-insert_apart}
use Rattle.uefi_vars.proofs.laws.a_put_sets_one_entry.Goals as goal

pub returns-clause-here : goal.returns-clause-here
returns-clause-here c = λ vars k value. get-insert_here vars (entry_text k) value

pub returns-clause-others : goal.returns-clause-others
returns-clause-others c = λ vars k n value p q differ. get-insert_apart vars (entry_text k) value (entry_text n) (λ e. differ (names_apart n k q p (sym e)))
