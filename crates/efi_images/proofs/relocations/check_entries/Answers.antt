use Rattle.std.proofs.Common.{arith}
use Rattle.std.proofs.lemmas.Result.{err_from_is_err_and}
use Rattle.efi_images.proofs.Blocks.{entries_go_on, entries_stop}
use Rattle.efi_images.proofs.relocations.check_entries.Goals as goal

pub check_entry-requires-clause-offset : goal.check_entry-requires-clause-offset
check_entry-requires-clause-offset c =
    omega (arith, c.loop.invariant.0, c.loop-test.true, c.requires.count.0, c.requires.count.1)

pub returns-in_err-check_entry : goal.returns-in_err-check_entry
returns-in_err-check_entry c =
    let p = err_from_is_err_and c.from_residual.result c.from_residual.ensures.1 in
    rw (p.1, p.2)
    (entries_stop c.args.headers.now c.args.loaded c.args.address c.loop.offset c.args.count c.loop.counter _ _ c.loop-test.true
    c.loop.invariant.1 c.in_err-check_entry.ensures)

pub loop-preserved : goal.loop-preserved
loop-preserved c = (
  omega (arith, c.loop.invariant.0),
  entries_go_on c.args.headers.now c.args.loaded c.args.address c.loop.offset c.args.count c.loop.counter _ c.loop-test.true
      c.loop.invariant.1 c.in_ok-check_entry.ensures,
)
