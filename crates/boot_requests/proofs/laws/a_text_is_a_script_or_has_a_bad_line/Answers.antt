use Rattle.boot_requests.proofs.EventLists.Texts.{script_or_bad}
use Rattle.boot_requests.proofs.laws.a_text_is_a_script_or_has_a_bad_line.Goals as goal

pub returns : goal.returns
returns c = script_or_bad
