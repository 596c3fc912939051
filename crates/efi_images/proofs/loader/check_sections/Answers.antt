use Rattle.std.proofs.Common.{◌≡◌, ◌<◌, ◌∙◌, ap, sym, arith}
use Rattle.std.proofs.lemmas.Result.{err_from_is_err_and}
use Rattle.efi_images.specs.Headers.{section_count}
use Rattle.efi_images.specs.Check.{first_fault}
use Rattle.efi_images.specs.Checks.{section_checks}
use Rattle.efi_images.proofs.Rows.{told_first, told_end, goes_on, stops}
use Rattle.efi_images.proofs.loader.check_sections.Goals as goal

pub loop-index-init : goal.loop-index-init
loop-index-init c = told_first (section_checks c.args.len c.args.headers.now) c.args.headers.now

pub returns-in_err-check_section : goal.returns-in_err-check_section
returns-in_err-check_section c =
    let file = c.args.headers.now in
    let below : c.loop-index.index < section_count file = omega (arith, c.section_count-index-end.ensures, c.loop-index-test.true) in
    let p = err_from_is_err_and c.from_residual.result c.from_residual.ensures.1 in
    rw (p.1, p.2)
    (stops (section_checks c.args.len file) file c.loop-index.index _ _ below c.loop-index.invariant
    (c.in_err-check_section.ensures ∙ ap (λ section. first_fault (section_checks c.args.len file section)) c.section.ensures))

pub loop-index-preserved : goal.loop-index-preserved
loop-index-preserved c =
    let file = c.args.headers.now in
    let below : c.loop-index.index < section_count file = omega (arith, c.section_count-index-end.ensures, c.loop-index-test.true) in
    goes_on (section_checks c.args.len file) file c.loop-index.index _ below c.loop-index.invariant
    (c.in_ok-check_section.ensures ∙ ap (λ section. first_fault (section_checks c.args.len file section)) c.section.ensures)

pub returns : goal.returns
returns c =
    let file = c.args.headers.now in
    let all : c.loop-index.index ≡ section_count file =
    omega (arith, c.section_count-index-end.ensures, c.loop-index-test.false, c.loop-index.auto.index-end) in
    sym (c.loop-index.invariant ∙ told_end (section_checks c.args.len file) file c.loop-index.index all)
