use Rattle.uefi_vars.proofs.laws.a_named_entry_is_not_unnamed.Goals as goal

pub returns-clause-order : goal.returns-clause-order
returns-clause-order c = λ vars order number has named unnamed. unnamed.in_no_order order has named

pub returns-clause-next : goal.returns-clause-next
returns-clause-next c = λ vars number has unnamed. unnamed.not_next has

pub returns-clause-undecodable : goal.returns-clause-undecodable
returns-clause-undecodable c = λ vars number undecodable unnamed. unnamed.in_no_order undecodable.order undecodable.has_order undecodable.named
