use Rattle.std.proofs.Common.{Some, None, sym}
use Rattle.uefi_vars.specs.NameChanges.{with_changes}
use Rattle.boot_requests.specs.Edit.{StoresFree}
use Rattle.boot_requests.proofs.effect.add_first.Goals as goal

pub returns-in_default : goal.returns-in_default
returns-in_default c =
    let stored : StoresFree (with_changes c.args.vars.now c.args.changes.now) (with_changes c.args.vars.now c.store_free.new.changes) c.args.option.now None =
    rw c.in_default.is at c.in_ok-number.ensures in
    rw c.of.ensures (λ m h. (sym (stored m h).0, (stored m h).1))

pub returns : goal.returns
returns c =
    let stored : StoresFree (with_changes c.args.vars.now c.args.changes.now) (with_changes c.args.vars.now c.store_free.new.changes) c.args.option.now
    (Some c.in-Some.number) = rw c.in-Some.is at c.in_ok-number.ensures in
    rw c.added_at.ensures (λ m h. (sym (stored m h).0, c.in_ok-put_first.ensures _ (stored m h).1))
