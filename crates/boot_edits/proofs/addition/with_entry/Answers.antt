use Rattle.std.proofs.Common.{◌<◌, ◌^◌, sym, ap, subst, ◌∙◌, inl, inr, arith}
use Rattle.std.proofs.lemmas.Result.{err_from_is_err_and}
use Rattle.std.specs.FinMap.{insert}
use Rattle.uefi_vars.specs.Name.{entry_text}
use Rattle.uefi_vars.specs.Vars.{Variables}
use Rattle.boot_edits.specs.Parts.{Becomes}
use Rattle.boot_edits.proofs.Parts.{as_it_was, then_entry, placed_becomes, place_fault}
use Rattle.boot_edits.proofs.addition.with_entry.Goals as goal

pub returns-clause-done : goal.returns-clause-done
returns-clause-done c =
    let vars = c.args.vars.now in
    let bytes = c.args.addition.now.option.now in
    let fits : c.args.number < 2 ^ 16 = omega (arith, c.ranges.number.fits) in
    let stored = c.in_ok-store_entry.ensures.stored ∙ ap (λ (m : Variables). insert m (entry_text c.args.number) bytes) c.in_ok-edited.ensures.equal in
    let mid = subst (Becomes vars _) (sym stored) (then_entry vars vars _ (as_it_was vars) c.args.number fits bytes) in
    let all = placed_becomes vars _ mid.order _ _ c.args.addition.now.position c.args.number mid c.in_ok-place.ensures.placed in
    record { fits = c.in_ok-store_entry.ensures.fits; order = all.0; placed = all.1; becomes = all.2 }

pub returns-in_err-store_entry-clause-refused : goal.returns-in_err-store_entry-clause-refused
returns-in_err-store_entry-clause-refused c =
    let p = err_from_is_err_and c.from_residual-in_err-store_entry.result c.from_residual-in_err-store_entry.ensures.1 in
    rw (p.1, p.2) (λ told.
    inl (c.in_err-store_entry.ensures.refused told))

pub returns-in_err-place-clause-refused : goal.returns-in_err-place-clause-refused
returns-in_err-place-clause-refused c =
    let p = err_from_is_err_and c.from_residual-in_err-place.result c.from_residual-in_err-place.ensures.1 in
    rw (p.1, p.2) (λ told.
    let vars = c.args.vars.now in
    let bytes = c.args.addition.now.option.now in
    let fits : c.args.number < 2 ^ 16 = omega (arith, c.ranges.number.fits) in
    let stored = c.in_ok-store_entry.ensures.stored ∙ ap (λ (m : Variables). insert m (entry_text c.args.number) bytes) c.in_ok-edited.ensures.equal in
    let mid = subst (Becomes vars _) (sym stored) (then_entry vars vars _ (as_it_was vars) c.args.number fits bytes) in
    inr (c.in_ok-store_entry.ensures.fits, place_fault vars _ mid.order c.args.addition.now.position c.args.number _ (c.in_err-place.ensures.refused told)))
