-- What is read of the changes and of what is left is what `changes_at` gives, in each turn of the loop.
use Rattle.std.proofs.Common.{◌≡◌, ◌<◌, length, arith, sym, subst}
use Rattle.std.specs.List.{AllByRecursion}
use Rattle.std.proofs.lemmas.Result.{err_from_is_err_and}
use Rattle.boot_journal.specs.Values.{IsBootChange}
use Rattle.boot_journal.specs.Reader.{changes_at}
use Rattle.boot_journal.proofs.ChangeLoop.{IsOnTheWay, begins, goes_on, fails, is_done, one_more}
use Rattle.boot_journal.proofs.reader.read_changes.Goals as goal

pub loop-rest-init : goal.loop-rest-init
loop-rest-init c = record {
  read = begins c.args.end c.args.bytes.now c.new-changes.result.items c.new-changes.ensures.items;
  valid = subst (AllByRecursion IsBootChange) (sym c.new-changes.ensures.items) tt;
}

pub returns-in_err-change-clause-value : goal.returns-in_err-change-clause-value
returns-in_err-change-clause-value c =
    let p = err_from_is_err_and c.from_residual.result c.from_residual.ensures.1 in
    let some : 0 < length c.loop-rest.rest.now = grind (arith, c.is_empty.ensures, c.loop-rest-test.true) in
    rw (p.1, p.2) (fails c.in_err-change.field-0.0 c.args.end c.loop-rest.rest.now c.loop-rest.changes.items
    (changes_at c.args.end c.args.bytes.now) c.loop-rest.invariant.read some c.in_err-change.ensures.value)

pub loop-rest-preserved : goal.loop-rest-preserved
loop-rest-preserved c =
    let pushed = c.in_ok-push.ensures.items in
    record {
      read = subst (λ cs. IsOnTheWay c.args.end c.in_ok-change.behind.now cs (changes_at c.args.end c.args.bytes.now)) (sym pushed)
          (goes_on c.args.end c.loop-rest.rest.now c.in_ok-change.behind.now c.loop-rest.changes.items c.in_ok-change.change
          (changes_at c.args.end c.args.bytes.now) c.loop-rest.invariant.read c.in_ok-change.ensures.value c.in_ok-change.ensures.shorter);
      valid = one_more c.loop-rest.changes.items c.push.new.self.items c.in_ok-change.change pushed c.loop-rest.invariant.valid c.in_ok-change.ensures.valid;
    }

pub returns-clause-value : goal.returns-clause-value
returns-clause-value c =
    let none : length c.loop-rest.rest.now ≡ 0 = grind (arith, c.is_empty.ensures, c.loop-rest-test.false) in
    is_done c.args.end c.loop-rest.rest.now c.loop-rest.changes.items (changes_at c.args.end c.args.bytes.now) c.loop-rest.invariant.read none
