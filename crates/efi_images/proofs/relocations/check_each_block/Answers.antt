use Rattle.std.proofs.Common.{◌+◌, ◌<◌, sym, arith}
use Rattle.std.proofs.lemmas.Result.{err_from_is_err_and}
use Rattle.efi_images.proofs.Blocks.{blocks_go_on, blocks_stop}
use Rattle.efi_images.proofs.relocations.check_each_block.Goals as goal

pub returns-in_err-offset : goal.returns-in_err-offset
returns-in_err-offset c =
    let more : c.loop.offset + 1 < c.args.size = omega (arith, c.if-offset-size.false) in
    let p = err_from_is_err_and c.from_residual.result c.from_residual.ensures.1 in
    rw (p.1, p.2)
    (blocks_stop c.args.headers.now c.args.loaded c.args.size c.loop.offset c.loop.counter _ _ c.loop-test.true more
    c.loop.invariant.1 c.in_err-offset.ensures.fault)

pub loop-preserved : goal.loop-preserved
loop-preserved c =
    let more : c.loop.offset + 1 < c.args.size = omega (arith, c.if-offset-size.false) in
    let next = c.in_ok-offset.ensures.next in (
      next.1,
      blocks_go_on c.args.headers.now c.args.loaded c.args.size c.loop.offset c.loop.counter _ _ c.loop-test.true more
          c.loop.invariant.1 c.in_ok-offset.ensures.fault (sym next.0),
    )
