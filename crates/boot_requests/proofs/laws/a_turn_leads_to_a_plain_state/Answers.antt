use Rattle.boot_requests.proofs.Turn.Plains.{turn_plain}
use Rattle.boot_requests.proofs.laws.a_turn_leads_to_a_plain_state.Goals as goal

pub returns : goal.returns
returns c = turn_plain c.each_option_is_spelled.ensures
