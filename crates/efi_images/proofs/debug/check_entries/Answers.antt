use Rattle.std.proofs.Common.{◌∙◌, ap, sym, arith, not, Some, None, if◌then◌else◌}
use Rattle.std.proofs.lemmas.Result.{err_from_is_err_and}
use Rattle.efi_images.specs.declared.fault.ImageFault.TheVariants as fault
use Rattle.efi_images.proofs.Entries.{entry_held, entry_within, entry_cut, entry_code_view, entry_other, code_view_after}
use Rattle.efi_images.proofs.debug.check_entries.Goals as goal

pub returns-in_err-wanted-clause-fault : goal.returns-in_err-wanted-clause-fault
returns-in_err-wanted-clause-fault c =
    let p = err_from_is_err_and c.from_residual.result c.from_residual.ensures.1 in
    rw (p.1, p.2)
    (entry_cut c.args.file.now c.loop.place c.args.count c.loop.counter _ _ c.loop-test.true c.loop.invariant.1 c.in_err-wanted.ensures)

pub returns-in_err-wanted-2-clause-fault : goal.returns-in_err-wanted-2-clause-fault
returns-in_err-wanted-2-clause-fault c =
    let file = c.args.file.now in
    let told = entry_held file c.loop.place c.args.count c.loop.counter _ c.loop-test.true c.loop.invariant.1 c.in_ok-wanted.ensures in
    let is = sym c.is_code_view.ensures ∙ c.if-is_code_view.true in
    let p = err_from_is_err_and c.from_residual-in_err-wanted-2.result c.from_residual-in_err-wanted-2.ensures.1 in
    rw (p.1, p.2)
    (c.in_err-wanted-2.ensures
    ∙ ap (λ unmapped. if not unmapped then None else Some (fault.UnmappedCodeView c.loop.place)) c.is_unmapped.ensures
    ∙ sym (told ∙ entry_code_view file c.loop.place _ is))

pub loop-preserved : goal.loop-preserved
loop-preserved c =
    let file = c.args.file.now in
    let told = entry_held file c.loop.place c.args.count c.loop.counter _ c.loop-test.true c.loop.invariant.1 c.in_ok-wanted.ensures in
    let is = sym c.is_code_view.ensures ∙ c.if-is_code_view.false in (
      omega (arith, entry_within file c.loop.place _ c.in_ok-wanted.ensures),
      told ∙ entry_other file c.loop.place _ is,
      c.loop.invariant.2 ∙ code_view_after file c.loop.place c.args.count c.loop.counter c.loop-test.true is,
    )
