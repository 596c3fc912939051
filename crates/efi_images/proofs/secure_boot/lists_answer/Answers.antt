use Rattle.std.proofs.Common.{sym, ◌∙◌, subst, map}
use Rattle.efi_images.specs.Signatures.{list_parts, HasLists}
use Rattle.efi_images.specs.SecureBoot.{damaged_dbx, in_dbx, by_db}
use Rattle.efi_images.proofs.Answered.{of_other, ok_as}
use Rattle.efi_images.proofs.secure_boot.lists_answer.Goals as goal

pub returns-in_default : goal.returns-in_default
returns-in_default c = damaged_dbx (of_other c.in-Err.ensures.fault c.in_default.not-OutOfMemory)

pub returns-then-is_in_dbx : goal.returns-then-is_in_dbx
returns-then-is_in_dbx c =
    in_dbx {denied = map list_parts c.as_slice-dbx.result.now}
    (subst (λ all. HasLists c.args.secure_boot.now.dbx.now 0 (map list_parts all)) (sym c.as_slice-dbx.ensures.value) c.in-Ok.ensures.lists)
    (sym c.is_in_dbx.ensures ∙ c.if-is_in_dbx.true)

pub returns : goal.returns
returns c =
    ok_as c.allowed_answer.result
    (λ told is. by_db {denied = map list_parts c.as_slice-dbx.result.now}
    (subst (λ all. HasLists c.args.secure_boot.now.dbx.now 0 (map list_parts all)) (sym c.as_slice-dbx.ensures.value) c.in-Ok.ensures.lists)
    (sym c.is_in_dbx.ensures ∙ c.if-is_in_dbx.false) is)
    c.allowed_answer.ensures
