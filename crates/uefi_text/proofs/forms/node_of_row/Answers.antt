use Rattle.std.proofs.Common.{arith}
use Rattle.std.proofs.lemmas.Result.{err_from_is_err_and}
use Rattle.uefi_text.proofs.Read.Generic.{row_node}
use Rattle.uefi_text.proofs.forms.node_of_row.Goals as goal

pub returns-in_err-bytes_of : goal.returns-in_err-bytes_of
returns-in_err-bytes_of c =
    let p = err_from_is_err_and c.from_residual.result c.from_residual.ensures.1 in
    rw (p.1, p.2) (row_node c.each_row_is_a_nodes.ensures c.args.kind c.args.sub c.args.digits.now (omega arith)
    (omega arith) c.requires.data c.requires.len c.if-kind-eq127.false)

pub returns-in-Err-OutOfMemory : goal.returns-in-Err-OutOfMemory
returns-in-Err-OutOfMemory c =
    row_node c.each_row_is_a_nodes.ensures c.args.kind c.args.sub c.args.digits.now (omega arith)
    (omega arith) c.requires.data c.requires.len c.if-kind-eq127.false
