use Rattle.std.proofs.Common.{◌-◌, length, take, drop}
use Rattle.std.proofs.lemmas.Result.{IfOk-weaker}
use Rattle.boot_requests.proofs.Variables.Marks.{first_found, one_then}
use Rattle.boot_requests.proofs.mark.Mark.read.Goals as goal

pub returns-in-1 : goal.returns-in-1
returns-in-1 c =
    let bytes = c.args.bytes.now in
    IfOk-weaker c.read_first.result _ _
    (first_found bytes (take (length bytes - 1) (drop 1 bytes)) (one_then bytes 1 c.in-len1-up.len_at_least c.in-1.is)) c.read_first.ensures
