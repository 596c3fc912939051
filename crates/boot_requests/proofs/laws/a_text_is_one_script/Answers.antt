use Rattle.boot_requests.proofs.EventLists.Scripts.{one_script}
use Rattle.boot_requests.proofs.laws.a_text_is_one_script.Goals as goal

pub returns : goal.returns
returns c = one_script
