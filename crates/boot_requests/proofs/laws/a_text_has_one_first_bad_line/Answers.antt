use Rattle.boot_requests.proofs.EventLists.Scripts.{one_bad_line}
use Rattle.boot_requests.proofs.laws.a_text_has_one_first_bad_line.Goals as goal

pub returns : goal.returns
returns c = one_bad_line
