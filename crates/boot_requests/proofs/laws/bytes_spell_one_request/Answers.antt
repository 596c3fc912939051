use Rattle.boot_requests.proofs.Frames.Requests.{same_request}
use Rattle.boot_requests.proofs.laws.bytes_spell_one_request.Goals as goal

pub returns : goal.returns
returns c = same_request c.units_are_read_again.ensures c.bytes_spell_one_option.ensures
