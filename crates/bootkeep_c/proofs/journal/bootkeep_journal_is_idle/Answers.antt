use Rattle.bootkeep_c.specs.Journals.{IsIdleIn, IsUnreadJournal}
use Rattle.bootkeep_c.proofs.Answering.{tells_value}
use Rattle.bootkeep_c.proofs.journal.bootkeep_journal_is_idle.Goals as goal

pub returns : goal.returns
returns c =
    let given = c.args in
    tells_value (IsIdleIn given.journal.now) (IsUnreadJournal given.journal.now) c.idle_in.result c.tell.result
    given.idle.now c.tell.new.to given.refusal.now c.tell.new.refusal
    c.idle_in.ensures.found c.idle_in.ensures.fault c.tell.ensures.told c.tell.ensures.fault
