use Rattle.std.proofs.Common.{arith}
use Rattle.uefi_path.proofs.Views.{before_end, front_size}
use Rattle.uefi_path.proofs.reader.split_path.Goals as goal

pub slice_bounds-new-count : goal.slice_bounds-new-count
slice_bounds-new-count c =
    let found = c.in_ok-len.ensures.found in
    omega (arith, front_size c.args.bytes.now found.0 c.in_ok-len.len found.1)

pub returns-clause-found : goal.returns-clause-found
returns-clause-found c =
    let found = c.in_ok-len.ensures.found in
    (found.0, found.1, before_end c.args.bytes.now found.0 c.in_ok-len.len c.new.result.bytes.now found.1 c.new.ensures)
