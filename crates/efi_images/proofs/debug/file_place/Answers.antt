use Rattle.std.proofs.Common.{◌≡◌, ◌<◌, ◌∙◌, ap, sym, arith}
use Rattle.efi_images.specs.Headers.{section_count}
use Rattle.efi_images.specs.Debug.{file_place}
use Rattle.efi_images.proofs.Rows.{from_first, from_end}
use Rattle.efi_images.proofs.Entries.{place_here, place_after}
use Rattle.efi_images.proofs.debug.file_place.Goals as goal

pub loop-index-init : goal.loop-index-init
loop-index-init c = ap (λ all. file_place all c.args.address) (from_first c.args.headers.now)

pub returns-then-has_address-clause-place : goal.returns-then-has_address-clause-place
returns-then-has_address-clause-place c =
    let file = c.args.headers.now in
    let below : c.loop-index.index < section_count file = omega (arith, c.section_count-index-end.ensures, c.loop-index-test.true) in
    sym (c.loop-index.invariant
    ∙ place_here file c.loop-index.index c.args.address _ c.section-section.ensures below (sym c.has_address.ensures ∙ c.if-has_address.true))

pub loop-index-preserved : goal.loop-index-preserved
loop-index-preserved c =
    let file = c.args.headers.now in
    let below : c.loop-index.index < section_count file = omega (arith, c.section_count-index-end.ensures, c.loop-index-test.true) in
    c.loop-index.invariant
    ∙ place_after file c.loop-index.index c.args.address _ c.section-section.ensures below (sym c.has_address.ensures ∙ c.if-has_address.false)

pub returns-clause-place : goal.returns-clause-place
returns-clause-place c =
    let file = c.args.headers.now in
    let all : c.loop-index.index ≡ section_count file =
    omega (arith, c.section_count-index-end.ensures, c.loop-index-test.false, c.loop-index.auto.index-end) in
    sym (c.loop-index.invariant ∙ ap (λ others. file_place others c.args.address) (from_end file c.loop-index.index all))
