use Rattle.std.proofs.Common.{sym}
use Rattle.boot_requests.proofs.Variables.Marks.{found_is}
use Rattle.boot_requests.proofs.stored_state.read_mark.Goals as goal

pub returns : goal.returns
returns c = found_is c.args.vars.now c.in-Some.bytes.now (sym c.in-Some.ensures.value) c.in_ok-found.found c.in_ok-found.ensures
