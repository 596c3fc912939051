use Rattle.std.proofs.Common.{refl, arith}
use Rattle.std.proofs.lemmas.Result.{err_from_is_err_and}
use Rattle.uefi_option.proofs.Bytes.{recursion_from_bytes}
use Rattle.uefi_option.proofs.Readings.{list_fault_is}
use Rattle.uefi_option.proofs.Views.{view_shows, view_is_cut}
use Rattle.uefi_option.proofs.reader.find_option.Goals as goal

pub returns-in_err-check_paths-clause-fault : goal.returns-in_err-check_paths-clause-fault
returns-in_err-check_paths-clause-fault c =
    let view = c.in_ok-view.view in
    let p = err_from_is_err_and c.from_residual-in_err-check_paths.result c.from_residual-in_err-check_paths.ensures.1 in
    rw (p.1, p.2) (list_fault_is c.args.bytes.now view.attributes view.description.now view.list.now view.optional.now _
    c.in_err-check_paths.field-0.0 c.in_ok-view.ensures.found refl c.in_err-check_paths.ensures.fault)

pub returns-clause-found : goal.returns-clause-found
returns-clause-found c =
    view_shows c.args.bytes.now c.in_ok-view.view (recursion_from_bytes c.args.bytes.now
    (λ i. omega (arith, c.type_inv.bytes i))) c.in_ok-view.ensures.found c.in_ok-check_paths.ensures.ok

pub returns-clause-places : goal.returns-clause-places
returns-clause-places c = view_is_cut c.args.bytes.now c.in_ok-view.view c.in_ok-view.ensures.found
