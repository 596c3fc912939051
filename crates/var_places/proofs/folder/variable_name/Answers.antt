use Rattle.std.proofs.Common.{◌≡◌, ◌+◌, length, sym, subst, arith}
use Rattle.var_places.specs.Folder.{IsVendorText}
use Rattle.var_places.proofs.FileNames.{file_length, rest_at, boundary, joined}
use Rattle.var_places.proofs.folder.variable_name.Goals as goal

-- the file's name is too short
pub returns-in_err-checked_sub-clause-none : goal.returns-in_err-checked_sub-clause-none
returns-in_err-checked_sub-clause-none c = λ none name is.
    let long = file_length c.args.file.now name is in
    let less = c.in_err-checked_sub.ensures in
    omega (arith, long, less)

-- no character begins where the hyphen would be
pub returns-in_err-name-clause-none : goal.returns-in_err-name-clause-none
returns-in_err-name-clause-none c = λ none name is.
    let long = file_length c.args.file.now name is in
    let at : c.in_ok-checked_sub.field-0 + 37 ≡ length c.args.file.now = omega (arith, long, c.in_ok-checked_sub.ensures) in
    let no = c.in_err-name.ensures.variant.1 (boundary c.args.file.now name c.in_ok-checked_sub.field-0 is at) in
    absurd (cc no)

pub returns-then-is_vendor-clause-found : goal.returns-then-is_vendor-clause-found
returns-then-is_vendor-clause-found c = (
  c.in_ok-name.rest.now,
  joined c.args.file.now c.in_ok-name.name.now c.in_ok-name.rest.now _ c.in_ok-name.ensures.front c.in_ok-name.ensures.back,
  c.is_vendor.ensures.0 c.if-is_vendor.true,
)

-- it isn't the hyphen and the vendor that are there
pub returns-else-is_vendor-clause-none : goal.returns-else-is_vendor-clause-none
returns-else-is_vendor-clause-none c = λ none name is.
    let long = file_length c.args.file.now name is in
    let at : c.in_ok-checked_sub.field-0 + 37 ≡ length c.args.file.now = omega (arith, long, c.in_ok-checked_sub.ensures) in
    let rest = rest_at c.args.file.now name c.in_ok-checked_sub.field-0 is at in
    let yes = c.is_vendor.ensures.1 (subst IsVendorText (sym c.in_ok-name.ensures.back) rest) in
    absurd (cc (yes, c.if-is_vendor.false))
