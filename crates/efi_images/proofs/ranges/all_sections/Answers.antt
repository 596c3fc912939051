use Rattle.std.proofs.Common.{◌<◌, ◌∙◌, ◌+◌, ◌++◌, ap, sym, arith}
use Rattle.efi_images.specs.Headers.{section_count}
use Rattle.efi_images.proofs.Rows.{from, from_first, rows_more}
use Rattle.efi_images.proofs.ranges.all_sections.Goals as goal

pub loop-index-init : goal.loop-index-init
loop-index-init c =
    let file = c.args.headers.now in
    ap (λ all. all ++ from file 0) c.new-all.ensures.items ∙ sym (from_first file)

pub loop-index-preserved : goal.loop-index-preserved
loop-index-preserved c =
    let file = c.args.headers.now in
    let below : c.loop-index.index < section_count file = omega (arith, c.section_count-index-end.ensures, c.loop-index-test.true) in
    ap (λ all. all ++ from file (c.loop-index.index + 1)) c.in_ok-push.ensures.items
    ∙ rows_more file c.loop-index.index c.section-section.result c.loop-index.all.items c.section-section.ensures below c.loop-index.invariant
