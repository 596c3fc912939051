use Rattle.std.proofs.Common.{◌≡◌, map, Option, None, IfSome, sym, ap, subst, ◌∙◌}
use Rattle.std.proofs.lemmas.List.{drop_all}
use Rattle.var_stores.specs.Record.{RecordParts, record_parts}
use Rattle.var_stores.specs.Present.{found_after}
use Rattle.var_stores.specs.PresentMap.{record_under}
use Rattle.var_stores.proofs.Found.{IsFoundAs, found_after-is}
use Rattle.var_stores.proofs.present.present.Goals as goal

pub returns-clause-keyed : goal.returns-clause-keyed
returns-clause-keyed c = λ key.
    let records = c.args.records.now in
    let all : found_after key None (map record_parts records) ≡ record_under c.loop-record.present key =
    sym (c.loop-record.invariant key) ∙ ap (λ rs. found_after key (record_under c.loop-record.present key) (map record_parts rs))
    (drop_all c.loop-record.record-index records c.loop-record-test.false) in
    subst (λ (found : Option RecordParts). IfSome found (IsFoundAs key)) all (found_after-is key None (map record_parts records) tt)
