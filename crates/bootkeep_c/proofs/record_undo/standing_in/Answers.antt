use Rattle.std.proofs.Common.{subst}
use Rattle.change_records.specs.BootPart.{IsStanding}
use Rattle.change_records.specs.Record.{RecordParts}
use Rattle.bootkeep_c.proofs.record_undo.standing_in.Goals as goal

pub returns-clause-found : goal.returns-clause-found
returns-clause-found c =
    let both = c.in_ok-change.ensures.found in
    let now = c.in_ok-change.now in
    let standing = c.in_ok-standing_of.field-0 in (
      both.0,
      now,
      standing,
      both.1,
      both.2,
      subst (λ (r : RecordParts). IsStanding r now standing) both.3 c.in_ok-standing_of.ensures,
      c.standing_number.ensures,
    )
