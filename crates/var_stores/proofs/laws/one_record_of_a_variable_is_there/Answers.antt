use Rattle.std.proofs.Common.{None}
use Rattle.var_stores.proofs.Found.{first_added, last_replaced, none_alive}
use Rattle.var_stores.proofs.laws.one_record_of_a_variable_is_there.Goals as goal

pub returns-clause-added : goal.returns-clause-added
returns-clause-added c = λ key before after r none is. first_added key before after r none is

pub returns-clause-replaced : goal.returns-clause-replaced
returns-clause-replaced c = λ key before after r none is later. last_replaced key before after r none is later

pub returns-clause-none : goal.returns-clause-none
returns-clause-none c = λ key records none. none_alive key None records none
