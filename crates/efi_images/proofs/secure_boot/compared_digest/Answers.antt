use Rattle.std.proofs.Common.{subst}
use Rattle.efi_images.specs.SecureBoot.{HaveDigests}
use Rattle.efi_images.proofs.Compared.{alike}
use Rattle.efi_images.proofs.secure_boot.compared_digest.Goals as goal

pub returns : goal.returns
returns c =
    let on = c.args.secure_boot.now in
    alike _ _ on.db.now on.dbx.now
    (subst (λ some. HaveDigests on.db.now some) c.if-is_allowed_by_some.false c.in_ok-is_allowed_by_some.ensures)
    (subst (λ some. HaveDigests on.dbx.now some) c.if-is_denied_by_some.false c.in_ok-is_denied_by_some.ensures)
