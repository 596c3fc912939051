use Rattle.boot_requests.proofs.Turn.AppliedEntries.{asked}
use Rattle.boot_requests.proofs.laws.a_stored_option_is_what_was_asked_for.Goals as goal

pub returns : goal.returns
returns c = asked
