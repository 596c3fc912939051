-- The faults behind a count.
use Rattle.std.proofs.Common.{refl, arith}
use Rattle.std.proofs.lemmas.Result.{err_from_is_err_and}
use Rattle.boot_notes.specs.Fault.{StatesCount}
use Rattle.boot_notes.proofs.Spellings.{counted, cut_behind}
use Rattle.boot_notes.proofs.reader.split_body.Goals as goal

pub returns-then-count-gt-DIGESTS_MAX-clause-fault : goal.returns-then-count-gt-DIGESTS_MAX-clause-fault
returns-then-count-gt-DIGESTS_MAX-clause-fault c = λ some. record {
  count = c.in-Some-split_first.count.now;
  behind = c.in-Some-split_first.behind.now;
  stated =
      let first = c.in-Some.ensures.cases in
      counted c.args.body.now c.in-Some.identity.now c.in-Some.behind.now _ _ first.0 first.1 (omega (arith, first.2)) c.in-Some-split_first.ensures.cases.0;
  many = omega arith;
  at = refl;
}

pub returns-in_err-digests-clause-fault : goal.returns-in_err-digests-clause-fault
returns-in_err-digests-clause-fault c =
    let p = err_from_is_err_and c.from_residual.result c.from_residual.ensures.1 in
    let first = c.in-Some.ensures.cases in
    let stated : StatesCount c.args.body.now c.in-Some-split_first.count.now c.in-Some-split_first.behind.now =
    counted c.args.body.now c.in-Some.identity.now c.in-Some.behind.now _ _ first.0 first.1 (omega (arith, first.2)) c.in-Some-split_first.ensures.cases.0 in
    rw (p.1, p.2) (λ some. cut_behind c.args.body.now _ _ _ stated (omega arith) (c.in_err-digests.ensures.fault some))
