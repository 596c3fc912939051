use Rattle.std.proofs.Common.{◌∙◌, ap, subst, inr, None}
use Rattle.std.proofs.lemmas.Result.{err_from_is_err_and}
use Rattle.efi_images.specs.Check.{first_fault}
use Rattle.efi_images.specs.Checks.{form_checks}
use Rattle.efi_images.specs.Digest.{size_fault, HasRanges}
use Rattle.efi_images.proofs.Undigested.{by_boot_manager, by_form, by_sizes}
use Rattle.efi_images.proofs.ranges.front_ranges.Goals as goal

pub returns-in-Err-clause-fault : goal.returns-in-Err-clause-fault
returns-in-Err-clause-fault c = inr (by_boot_manager c.args.len c.args.front.now _ c.in-Err.ensures.fault)

pub returns-in-Err-check_form-clause-fault : goal.returns-in-Err-check_form-clause-fault
returns-in-Err-check_form-clause-fault c =
    let len = c.args.len in
    inr (by_form len c.args.front.now _ c.in-Ok.ensures.fault
    (c.in-Err-check_form.ensures.fault ∙ ap (λ file. first_fault (form_checks len file)) c.in-Ok.ensures.headers))

pub returns-in_err-check_total-clause-fault : goal.returns-in_err-check_total-clause-fault
returns-in_err-check_total-clause-fault c =
    let len = c.args.len in
    let same = c.in-Ok.ensures.headers in
    let form = c.in-Ok-check_form.ensures.fault ∙ ap (λ file. first_fault (form_checks len file)) same in
    let p = err_from_is_err_and c.from_residual.result c.from_residual.ensures.1 in
    rw (p.1, p.2) (inr (by_sizes len c.args.front.now _ c.in-Ok.ensures.fault form (c.in_err-check_total.ensures ∙ ap (size_fault len) same)))

pub returns-in-Ok-all_ranges-clause-ranges : goal.returns-in-Ok-all_ranges-clause-ranges
returns-in-Ok-all_ranges-clause-ranges c =
    let len = c.args.len in
    let same = c.in-Ok.ensures.headers in
    let form = c.in-Ok-check_form.ensures.fault ∙ ap (λ file. first_fault (form_checks len file)) same in (
      by_sizes len c.args.front.now None c.in-Ok.ensures.fault form (c.in_ok-check_total.ensures ∙ ap (size_fault len) same),
      subst (λ file. HasRanges len file c.in-Ok-all_ranges.ranges.items) same c.in-Ok-all_ranges.ensures,
    )
