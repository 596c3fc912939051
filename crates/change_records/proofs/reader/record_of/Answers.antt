-- Each field is read, or has a fault after those before it.
use Rattle.std.proofs.Common.{ℕ, ◌-◌, List, length, drop, sym, ap, subst, Bor, arith}
use Rattle.std.proofs.lemmas.List.{take_all, length-drop}
use Rattle.std.proofs.lemmas.Result.{err_from_is_err_and}
use Rattle.change_records.specs.declared.fault.RecordFault.TheVariants as fault
use Rattle.change_records.specs.Fault.{IsFirstBadWord}
use Rattle.change_records.proofs.Spellings.{all_of, fault_in_row}
use Rattle.change_records.proofs.reader.record_of.Goals as goal

pub returns-in_err-machine_of-clause-fault : goal.returns-in_err-machine_of-clause-fault
returns-in_err-machine_of-clause-fault c =
    let p = err_from_is_err_and c.from_residual.result c.from_residual.ensures.1 in
    rw (p.1, p.2) (λ some.
    let h = c.in_err-machine_of.ensures.fault some in
    rw (h.0) (fault_in_row c.args.fields.now _ fault.BadMachine c.in-len4-up.len_at_least h.1))

pub returns-in_err-time_of-clause-fault : goal.returns-in_err-time_of-clause-fault
returns-in_err-time_of-clause-fault c =
    let p = err_from_is_err_and c.from_residual-in_err-time_of.result c.from_residual-in_err-time_of.ensures.1 in
    rw (p.1, p.2) (λ some.
    let h = c.in_err-time_of.ensures.fault in
    rw (h.0) (fault_in_row c.args.fields.now _ fault.BadTime c.in-len4-up.len_at_least (c.in_ok-machine_of.ensures.valid, h.1)))

pub returns-in_err-before_of-clause-fault : goal.returns-in_err-before_of-clause-fault
returns-in_err-before_of-clause-fault c =
    let p = err_from_is_err_and c.from_residual-in_err-before_of.result c.from_residual-in_err-before_of.ensures.1 in
    rw (p.1, p.2) (λ some.
    let h = c.in_err-before_of.ensures.fault some in
    rw (h.1) (fault_in_row c.args.fields.now _ (fault.BadBefore h.0) c.in-len4-up.len_at_least
    (c.in_ok-machine_of.ensures.valid, sym (ap length c.in_ok-time_of.ensures.found), h.2)))

pub returns-in_err-after_of-clause-fault : goal.returns-in_err-after_of-clause-fault
returns-in_err-after_of-clause-fault c =
    let p = err_from_is_err_and c.from_residual-in_err-after_of.result c.from_residual-in_err-after_of.ensures.1 in
    rw (p.1, p.2) (λ some.
    let h = c.in_err-after_of.ensures.fault some in
    rw (h.1) (fault_in_row c.args.fields.now _ (fault.BadAfter h.0) c.in-len4-up.len_at_least
    (c.in_ok-machine_of.ensures.valid, sym (ap length c.in_ok-time_of.ensures.found), (c.in_ok-before_of.field-0, c.in_ok-before_of.ensures.found), h.2)))

pub returns-in_err-words_of-clause-fault : goal.returns-in_err-words_of-clause-fault
returns-in_err-words_of-clause-fault c =
    let p = err_from_is_err_and c.from_residual-in_err-words_of.result c.from_residual-in_err-words_of.ensures.1 in
    rw (p.1, p.2) (λ some.
    let h = c.in_err-words_of.ensures.fault some in
    let fields = c.args.fields.now in
    let bad =
    subst (λ (ws : List (Bor (List ℕ))). IsFirstBadWord (all_of ws) h.0)
    (take_all (length fields - 4) (drop 4 fields) (omega (arith, length-drop 4 fields))) h.2 in
    rw (h.1) (fault_in_row c.args.fields.now _ (fault.BadWord h.0) c.in-len4-up.len_at_least (
      c.in_ok-machine_of.ensures.valid,
      sym (ap length c.in_ok-time_of.ensures.found),
      (c.in_ok-before_of.field-0, c.in_ok-before_of.ensures.found),
      (c.in_ok-after_of.field-0, c.in_ok-after_of.ensures.found),
      bad,
    )))
