use Rattle.boot_requests.proofs.Turn.Replies.{one_reply}
use Rattle.boot_requests.proofs.laws.an_event_has_one_reply.Goals as goal

pub returns : goal.returns
returns c = one_reply c.entries_have_one_plan.ensures
