use Rattle.std.proofs.Common.{length, refl, ap, arith}
use Rattle.std.specs.String.{string_bytes}
use Rattle.std.proofs.lemmas.List.{length-map}
use Rattle.std.proofs.lemmas.Result.{err_from_is_err_and}
use Rattle.change_records.specs.Record.{record_parts}
use Rattle.bootkeep_c.specs.Refusals.{record_failure}
use Rattle.bootkeep_c.proofs.RecordFields.{parts_at}
use Rattle.bootkeep_c.proofs.record_places.places_in.Goals as goal

pub returns-in_err-change-clause-fault : goal.returns-in_err-change-clause-fault
returns-in_err-change-clause-fault c =
    let p = err_from_is_err_and c.from_residual.result c.from_residual.ensures.1 in
    rw (p.1, p.2) (λ other. (c.in_err-change.field-0.0, c.in_err-change.ensures.fault (λ is. other (ap record_failure is)), refl))

pub returns-clause-found : goal.returns-clause-found
returns-clause-found c =
    let r = record_parts c.in_ok-change.change in
    let found = c.in_ok-change.ensures.found in
    let parts =
    parts_at c.args.bytes.now r (length c.as_bytes-machine_len.result.now) c.len-before_len.result c.len-after_len.result found
    (ap length c.as_bytes-machine_len.ensures.value)
    (omega (arith, c.len-before_len.ensures, ap length c.in_ok-write_set.ensures.written))
    (omega (arith, c.len-after_len.ensures, ap length c.in_ok-write_set-2.ensures.written)) in (
      r,
      found,
      record {
        size_is = refl;
        machine = parts.machine;
        time = refl;
        before = parts.before;
        after = parts.after;
        words = omega (arith, c.len.ensures, length-map c.in_ok-change.change.words.items string_bytes);
      },
    )
