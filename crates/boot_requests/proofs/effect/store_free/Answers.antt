use Rattle.boot_requests.proofs.Variables.FreeNumbers.{told_free, told_none}
use Rattle.boot_requests.proofs.effect.store_free.Goals as goal

pub returns-in_default : goal.returns-in_default
returns-in_default c = λ m h. (told_none m _ h c.in_default.ensures, h)

pub returns : goal.returns
returns c = λ m h. (told_free m _ h c.in-Some.number c.in-Some.ensures, c.in_ok-store_entry.ensures c.args.vars.now m h)
