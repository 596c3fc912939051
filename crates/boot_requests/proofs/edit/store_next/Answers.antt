use Rattle.std.proofs.Common.{◌≡◌, ◌<◌, ◌^◌, arith}
use Rattle.std.specs.Int.{w16, to_le_bytes}
use Rattle.std.specs.FinMap.{insert}
use Rattle.uefi_vars.specs.Name.{next_text}
use Rattle.uefi_vars.specs.NameChanges.{with_changes}
use Rattle.boot_requests.proofs.Variables.Edits.{next_stored}
use Rattle.boot_requests.proofs.edit.store_next.Goals as goal

pub returns-in-Ok : goal.returns-in-Ok
returns-in-Ok c = λ vars m h.
    let fits : c.args.number < 2 ^ 16 = omega (arith, c.ranges.number.fits) in
    let put : with_changes vars c.put.new.self ≡ insert (with_changes vars c.args.changes.now) next_text (to_le_bytes w16 c.args.number) =
    cc (c.in-Ok.ensures.put vars) in
    next_stored m _ _ c.args.number fits put h
