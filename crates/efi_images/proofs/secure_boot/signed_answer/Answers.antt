use Rattle.std.proofs.Common.{subst}
use Rattle.efi_images.specs.Signers.{all_signers}
use Rattle.efi_images.specs.SecureBoot.{IsListsAnswer}
use Rattle.efi_images.proofs.Answered.{ok_as}
use Rattle.efi_images.proofs.secure_boot.signed_answer.Goals as goal

pub returns : goal.returns
returns c =
    let on = c.args.secure_boot.now in
    let signed = c.args.signed in
    let signers = all_signers 32 c.args.table.now 0 in
    ok_as c.lists_answer.result
    (λ told is. c.in_ok-digest.ensures signed signers told
    (subst (λ digest. IsListsAnswer digest signed signers on.db.now on.dbx.now told) c.as_slice.ensures
    (subst (λ these. IsListsAnswer c.as_slice.result.now signed these on.db.now on.dbx.now told) c.in_ok-signers.ensures is)))
    c.lists_answer.ensures
