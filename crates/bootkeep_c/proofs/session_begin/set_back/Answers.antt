use Rattle.std.proofs.Common.{inr}
use Rattle.bootkeep_c.proofs.session_begin.set_back.Goals as goal

pub returns-in-Err-NoData-clause-fault : goal.returns-in-Err-NoData-clause-fault
returns-in-Err-NoData-clause-fault c = λ other.
    inr (c.in_ok-back.back, c.in_ok-back.ensures.found, rw c.in-Err-NoData.field-0-is at c.in-Err-NoData.ensures.fault, c.bare.ensures)
