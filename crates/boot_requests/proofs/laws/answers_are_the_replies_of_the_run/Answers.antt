use Rattle.boot_requests.proofs.Turn.Sequences.{answers_reply}
use Rattle.boot_requests.proofs.laws.answers_are_the_replies_of_the_run.Goals as goal

pub returns : goal.returns
returns c = answers_reply
