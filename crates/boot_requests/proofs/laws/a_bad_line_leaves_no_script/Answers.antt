use Rattle.boot_requests.proofs.EventLists.Scripts.{no_script}
use Rattle.boot_requests.proofs.laws.a_bad_line_leaves_no_script.Goals as goal

pub returns : goal.returns
returns c = no_script
