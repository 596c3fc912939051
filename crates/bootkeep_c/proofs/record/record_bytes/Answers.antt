use Rattle.std.proofs.Common.{map, ◌∙◌, refl, ap, inl, inr}
use Rattle.std.specs.String.{string_bytes}
use Rattle.std.proofs.lemmas.Result.{err_from_is_err_and}
use Rattle.change_records.specs.Record.{record_parts}
use Rattle.bootkeep_c.specs.Refusals.{set_failure}
use Rattle.bootkeep_c.proofs.RecordsMade.{too_long}
use Rattle.bootkeep_c.proofs.record.record_bytes.Goals as goal

pub returns-in_err-words-clause-fault : goal.returns-in_err-words-clause-fault
returns-in_err-words-clause-fault c =
    let p = err_from_is_err_and c.from_residual-in_err-words.result c.from_residual-in_err-words.ensures.1 in
    rw (p.1, p.2) (λ other. inr (inl (c.in_ok-machine.ensures.name.1, c.in_err-words.ensures.fault other)))

pub returns-in_err-after-clause-fault : goal.returns-in_err-after-clause-fault
returns-in_err-after-clause-fault c =
    let p = err_from_is_err_and c.from_residual-in_err-after.result c.from_residual-in_err-after.ensures.1 in
    rw (p.1, p.2) (λ other. inr (inr (inl (
      c.in_ok-machine.ensures.name.1,
      (map string_bytes c.in_ok-words.words.items, c.in_ok-words.ensures.found),
      inr (
        c.in_ok-before.before,
        c.in_ok-before.ensures.found,
        (c.in_err-after.field-0.0, c.in_err-after.ensures.fault (λ is. other (ap set_failure is)), refl),
      ),
    ))))

pub returns-in_err-write_record-clause-fault : goal.returns-in_err-write_record-clause-fault
returns-in_err-write_record-clause-fault c =
    let p = err_from_is_err_and c.from_residual-in_err-write_record.result c.from_residual-in_err-write_record.ensures.1 in
    let given = c.args in
    let kept = c.in_ok-change.ensures.kept in
    rw (p.1, p.2) (λ other. inr (inr (inr (too_long given.machine.now given.time given.before.now given.after.now given.words.now
    (record_parts c.in_ok-change.change) c.in_err-write_record.field-0.0
    (record {
      named = c.in_ok-machine.ensures.name.1;
      from = c.in_ok-before.before;
      to = c.in_ok-after.after;
      was = c.in_ok-before.ensures.found;
      is = c.in_ok-after.ensures.found;
      machine_is = kept.0 ∙ c.in_ok-machine.ensures.name.0;
      time_is = kept.1;
      words_are = rw kept.2 c.in_ok-words.ensures.found;
      before_is = c.in_ok-change.ensures.before;
      after_is = c.in_ok-change.ensures.after;
    })
    c.in_err-write_record.ensures.fault other))))

pub returns-clause-made : goal.returns-clause-made
returns-clause-made c =
    let kept = c.in_ok-change.ensures.kept in (
      record_parts c.in_ok-change.change,
      record {
        named = c.in_ok-machine.ensures.name.1;
        from = c.in_ok-before.before;
        to = c.in_ok-after.after;
        was = c.in_ok-before.ensures.found;
        is = c.in_ok-after.ensures.found;
        machine_is = kept.0 ∙ c.in_ok-machine.ensures.name.0;
        time_is = kept.1;
        words_are = rw kept.2 c.in_ok-words.ensures.found;
        before_is = c.in_ok-change.ensures.before;
        after_is = c.in_ok-change.ensures.after;
      },
      c.in_ok-write_record.ensures.written,
    )
