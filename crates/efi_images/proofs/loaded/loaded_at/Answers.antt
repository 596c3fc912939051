use Rattle.std.proofs.Common.{◌≡◌, ◌<◌, ◌∙◌, sym, arith}
use Rattle.efi_images.specs.Headers.{section_count}
use Rattle.efi_images.proofs.Written.{written_first, written_step, written_end}
use Rattle.efi_images.proofs.loaded.loaded_at.Goals as goal

pub loop-index-init : goal.loop-index-init
loop-index-init c =
    let bound = c.loaded_headers-loaded.ensures.bound in
    (bound.0, bound.1, written_first c.args.headers.now c.args.address _ c.loaded_headers-loaded.ensures.known)

pub loop-index-preserved : goal.loop-index-preserved
loop-index-preserved c =
    let file = c.args.headers.now in
    let below : c.loop-index.index < section_count file = omega (arith, c.section_count-index-end.ensures, c.loop-index-test.true) in
    let bound = c.written_over-loaded.ensures.bound in (
      bound.0,
      bound.1,
      c.loop-index.invariant.2
          ∙ written_step file c.loop-index.index c.args.address c.section.result _ _ c.section.ensures below c.written_over-loaded.ensures.known,
    )

pub returns-clause-known : goal.returns-clause-known
returns-clause-known c =
    let file = c.args.headers.now in
    let all : c.loop-index.index ≡ section_count file =
    omega (arith, c.section_count-index-end.ensures, c.loop-index-test.false, c.loop-index.auto.index-end) in
    sym (c.loop-index.invariant.2 ∙ written_end file c.loop-index.index c.args.address _ all)
