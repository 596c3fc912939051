use Rattle.std.proofs.Common.{◌++◌, drop, Result, Err, sym, ap, ◌∙◌}
use Rattle.std.proofs.lemmas.Result.{err_from_is_err_and}
use Rattle.uefi_path.specs.declared.fault.PathFault.{PathFault}
use Rattle.uefi_path.specs.declared.view.NodeIter.{NodeIter}
use Rattle.uefi_path.specs.Row.{row_bytes, end_entire}
use Rattle.uefi_path.specs.Path.{path_rows}
use Rattle.uefi_path.proofs.Faults.{same_fault}
use Rattle.uefi_path.proofs.Paths.{no_fault_at_front, same_front}
use Rattle.uefi_path.proofs.Views.{front_rows, at_their_places}
use Rattle.uefi_path.proofs.reader.nodes.Goals as goal

pub returns-in_err-nodes-clause-only_fault : goal.returns-in_err-nodes-clause-only_fault
returns-in_err-nodes-clause-only_fault c = λ fault first.
    let p = err_from_is_err_and c.from_residual.result c.from_residual.ensures.1 in
    let same = same_fault c.args.bytes.now c.in_err-nodes.field-0.0 fault c.in_err-nodes.ensures.fault first in
    rw (p.1, p.2) (ap (λ (f : PathFault). let err : Result NodeIter PathFault = Err f in err) same)

pub returns-in_err-nodes-clause-only : goal.returns-in_err-nodes-clause-only
returns-in_err-nodes-clause-only c = λ path n front. absurd
    (no_fault_at_front c.args.bytes.now c.in_err-nodes.field-0.0 path n front c.in_err-nodes.ensures.fault)

pub returns-clause-places : goal.returns-clause-places
returns-clause-places c = λ before after r is.
    let input = c.args.bytes.now in
    let len = c.in_ok-nodes.field-0-1 in
    let found = c.in_ok-nodes.ensures.found in
    at_their_places input (path_rows found.0) (row_bytes end_entire ++ drop len input) (front_rows input found.0 len found.1) before after r (sym found.2 ∙ is)

pub returns-clause-only : goal.returns-clause-only
returns-clause-only c = λ path n front.
    let found = c.in_ok-nodes.ensures.found in
    found.2 ∙ ap path_rows (same_front c.args.bytes.now found.0 path c.in_ok-nodes.field-0-1 n found.1 front).0

pub returns-clause-only_fault : goal.returns-clause-only_fault
returns-clause-only_fault c = λ fault first. absurd
    (no_fault_at_front c.args.bytes.now fault c.in_ok-nodes.ensures.found.0 c.in_ok-nodes.field-0-1
    c.in_ok-nodes.ensures.found.1 first)
