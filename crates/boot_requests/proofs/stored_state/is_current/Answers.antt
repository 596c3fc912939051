use Rattle.std.proofs.Common.{sym}
use Rattle.boot_requests.specs.Marks.{mark_of}
use Rattle.boot_requests.proofs.Variables.Marks.{has_second, mark_in_bytes, none_is_second}
use Rattle.boot_requests.proofs.stored_state.is_current.Goals as goal

pub returns-in-Some-clause-current : goal.returns-in-Some-clause-current
returns-in-Some-clause-current c = λ next_number kept current has.
    let vars = c.args.vars.now in
    let bytes = c.in-Some.bytes.now in
    has_second vars bytes (sym c.in-Some.ensures.value) (mark_of next_number kept)
    ((c.is_current.ensures (mark_of next_number kept) (mark_in_bytes vars bytes (sym c.in-Some.ensures.value) next_number kept has)).0 current)

pub returns-in-Some-clause-other : goal.returns-in-Some-clause-other
returns-in-Some-clause-other c = λ next_number kept other has.
    ((c.is_current.ensures (mark_of next_number kept)
    (mark_in_bytes c.args.vars.now c.in-Some.bytes.now (sym c.in-Some.ensures.value) next_number kept has)).1 other).is.some

pub returns-in-None-clause-current : goal.returns-in-None-clause-current
returns-in-None-clause-current c = λ next_number kept current has. none_is_second c.args.vars.now next_number kept (sym c.in-None.ensures.value) has
