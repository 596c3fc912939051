-- By induction over the calls, for a name that no change is of.
use Rattle.journaled_requests.proofs.OwnCalls.{owned_calls}
use Rattle.journaled_requests.proofs.laws.calls_keep_what_firmware_did.Goals as goal

pub returns : goal.returns
returns c = owned_calls
