-- A piece is cut delivery by delivery: what is missing of one is appended to what is held, until nothing is left of the piece.
use Rattle.std.proofs.Common.{refl, ◌∙◌, arith}
use Rattle.std.proofs.lemmas.Result.{err_from_is_err_and}
use Rattle.boot_requests.proofs.Streams.Pieces.{none_taken, appended, taken_on, taken_whole, nothing_missing, cuts_on, begins_on, fault_left}
use Rattle.boot_requests.proofs.inbox.cut_piece.Goals as goal

pub loop-rest-init : goal.loop-rest-init
loop-rest-init c = record { taken = none_taken _ _ _ c.requires.0; missing = c.requires.1 }

pub returns-in_err-count-clause-fault : goal.returns-in_err-count-clause-fault
returns-in_err-count-clause-fault c =
    let a = appended _ _ _ _ _ c.loop-rest.count c.loop-rest.invariant.missing c.split_at.ensures.by_index.0 c.in_ok-extend_from_slice.ensures.items
    (omega arith) in
    let p = err_from_is_err_and c.from_residual-in_err-count.result c.from_residual-in_err-count.ensures.1 in
    rw (p.1, p.2) (λ other. fault_left _ _ _ _ _ _ _ c.deref.ensures.value c.in_err-count.ensures.fault (cuts_on _ _ _ _ _ _ _ _ c.loop-rest.invariant.taken a))

pub returns-in_err-count-clause-begins : goal.returns-in_err-count-clause-begins
returns-in_err-count-clause-begins c =
    let a = appended _ _ _ _ _ c.loop-rest.count c.loop-rest.invariant.missing c.split_at.ensures.by_index.0 c.in_ok-extend_from_slice.ensures.items
    (omega arith) in
    begins_on _ _ _ _ _ _ _ _ c.loop-rest.invariant.taken a

pub loop-rest-preserved-then-count-eq0 : goal.loop-rest-preserved-then-count-eq0
loop-rest-preserved-then-count-eq0 c =
    let a = appended _ _ _ _ _ c.loop-rest.count c.loop-rest.invariant.missing c.split_at.ensures.by_index.0 c.in_ok-extend_from_slice.ensures.items
    (omega arith) in
    let left = rw c.deref.ensures.value at
    (c.in_ok-count.ensures.count c.loop-rest.held.items c.split_at.result.0.now
    (c.deref.ensures.value ∙ c.in_ok-extend_from_slice.ensures.items) refl c.loop-rest.invariant.missing) in
    let empty = c.in_ok-give.ensures.given.0 in
    record {
      taken = taken_whole _ _ _ _ _ _ _ _ c.loop-rest.invariant.taken a _ _ _ left c.if-count-eq0.true empty c.in_ok-give.ensures.given.1;
      missing = nothing_missing _ empty;
    }

pub returns-in_err-give-clause-begins : goal.returns-in_err-give-clause-begins
returns-in_err-give-clause-begins c =
    let a = appended _ _ _ _ _ c.loop-rest.count c.loop-rest.invariant.missing c.split_at.ensures.by_index.0 c.in_ok-extend_from_slice.ensures.items
    (omega arith) in
    let same = c.in_err-give.ensures.refused in
    rw (same.1, same.2) (begins_on _ _ _ _ _ _ _ _ c.loop-rest.invariant.taken a)

pub loop-rest-preserved : goal.loop-rest-preserved
loop-rest-preserved c =
    let a = appended _ _ _ _ _ c.loop-rest.count c.loop-rest.invariant.missing c.split_at.ensures.by_index.0 c.in_ok-extend_from_slice.ensures.items
    (omega arith) in
    let left = rw c.deref.ensures.value at
    (c.in_ok-count.ensures.count c.loop-rest.held.items c.split_at.result.0.now
    (c.deref.ensures.value ∙ c.in_ok-extend_from_slice.ensures.items) refl c.loop-rest.invariant.missing) in
    record { taken = taken_on _ _ _ _ _ _ _ _ c.loop-rest.invariant.taken a _ left c.if-count-eq0.false; missing = left }
