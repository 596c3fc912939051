use Rattle.std.proofs.Common.{arith, get_or}
use Rattle.std.proofs.lemmas.Result.{err_from_is_err_and}
use Rattle.uefi_path.proofs.Split.{header_of_bytes, splits_row, fault_of_header}
use Rattle.uefi_path.proofs.reader.split_node.Goals as goal

pub returns-in_err-check_header-clause-fault : goal.returns-in_err-check_header-clause-fault
returns-in_err-check_header-clause-fault c =
    let bytes = c.args.bytes.now in
    let header = header_of_bytes bytes c.from.result c.in-len4-up.len_at_least (λ i. omega (arith, c.type_inv.bytes i)) cc in
    let p = err_from_is_err_and c.from_residual.result c.from_residual.ensures.1 in
    rw (p.1, p.2) (fault_of_header c.in_err-check_header.field-0.0 bytes (get_or bytes 0 0)
    (get_or bytes 1 0) c.from.result c.args.offset header c.in_err-check_header.ensures.fault)

pub returns-clause-found : goal.returns-clause-found
returns-clause-found c =
    let bytes = c.args.bytes.now in
    let header = header_of_bytes bytes c.from.result c.in-len4-up.len_at_least (λ i. omega (arith, c.type_inv.bytes i)) cc in
    splits_row bytes (get_or bytes 0 0) (get_or bytes 1 0) c.from.result c.split_at.result.0.now c.split_at.result.1.now
    (λ i. omega (arith, c.type_inv.bytes i)) (omega (arith, c.type_inv.bytes 0)) (omega (arith, c.type_inv.bytes 1)) header c.in_ok-check_header.ensures.ok
    c.split_at.ensures.front c.split_at.ensures.back
