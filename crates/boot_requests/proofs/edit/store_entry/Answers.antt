use Rattle.std.proofs.Common.{ℕ, ◌<◌, ◌^◌, List, ap, subst, ◌∙◌, arith}
use Rattle.std.specs.FinMap.{insert}
use Rattle.uefi_vars.specs.Name.{entry_text}
use Rattle.uefi_vars.specs.Vars.{IsData}
use Rattle.uefi_vars.specs.NameChanges.{with_changes}
use Rattle.boot_requests.proofs.Variables.Edits.{entry_stored}
use Rattle.boot_requests.proofs.edit.store_entry.Goals as goal

pub returns : goal.returns
returns c = λ vars m h.
    let fits : c.args.number < 2 ^ 16 = omega (arith, c.ranges.number.fits) in
    entry_stored m _ _ c.args.number _ fits
    (c.in-Ok.ensures.put vars ∙ ap (λ (b : List ℕ). insert (with_changes vars c.args.changes.now) (entry_text c.args.number) b) (c.in_ok-bytes.ensures.written))
    (subst IsData (c.in_ok-bytes.ensures.written) c.in-Ok.ensures.valid.1) h
