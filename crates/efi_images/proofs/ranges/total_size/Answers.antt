use Rattle.std.proofs.Common.{◌<◌, ◌∙◌, ap, arith, ◌+◌}
use Rattle.efi_images.specs.Headers.{section_count}
use Rattle.efi_images.proofs.Sums.{size_first, size_step, size_from}
use Rattle.efi_images.proofs.ranges.total_size.Goals as goal

pub loop-index-init : goal.loop-index-init
loop-index-init c =
    let file = c.args.headers.now in
    (omega (arith, c.headers_size-total.type_inv), ap (λ n. n + size_from file 0) c.headers_size-total.ensures ∙ size_first file)

pub loop-index-preserved : goal.loop-index-preserved
loop-index-preserved c =
    let file = c.args.headers.now in
    let below : c.loop-index.index < section_count file = omega (arith, c.section_count-index-end.ensures, c.loop-index-test.true) in
    let step = size_step file c.loop-index.index c.section-section.result c.section-section.ensures below in (
      omega (arith, c.raw_len-total.ensures.bound, c.loop-index.invariant.0),
      omega (arith, step, c.raw_len-total.ensures.len, c.loop-index.invariant.1),
    )
