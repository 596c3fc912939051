use Rattle.std.proofs.Common.{subst}
use Rattle.change_records.specs.Back.{IsWanted}
use Rattle.change_records.specs.Record.{RecordParts}
use Rattle.bootkeep_c.proofs.record_undo.back_in.Goals as goal

pub returns-clause-made : goal.returns-clause-made
returns-clause-made c =
    let both = c.in_ok-change.ensures.found in
    let now = c.in_ok-change.now in
    let wanted = c.in_ok-wanted.wanted in (
      both.0,
      now,
      wanted,
      both.1,
      both.2,
      subst (λ (r : RecordParts). IsWanted r now wanted) both.3 c.in_ok-wanted.ensures,
      c.in_ok-write_set.ensures.written,
    )
