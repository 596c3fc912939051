use Rattle.std.proofs.Common.{◌≡◌, ℕ, List, Result, Ok, Err, sym, ap, subst, ◌∙◌, inl}
use Rattle.std.specs.List.{AllByRecursion}
use Rattle.std.proofs.lemmas.Result.{err_from_is_err_and}
use Rattle.uefi_path.specs.declared.node.Node.{Node}
use Rattle.uefi_path.specs.declared.fault.PathFault.{PathFault}
use Rattle.uefi_path.specs.declared.fault.PathFault.TheVariants.{OutOfMemory}
use Rattle.uefi_path.specs.Answer.{IsUnless}
use Rattle.uefi_path.specs.Row.{Row}
use Rattle.uefi_path.specs.Fault.{IsBeforeEnd}
use Rattle.uefi_path.specs.Path.{IsPathFront, path_rows}
use Rattle.uefi_path.specs.Reader.{HasRowsOf}
use Rattle.uefi_path.proofs.Faults.{same_fault}
use Rattle.uefi_path.proofs.Paths.{same_front, same_instances, no_fault_at_front, path_rows_are_inner}
use Rattle.uefi_path.proofs.reader.read_path.Goals as goal

-- the path that was made of the rows of a path is that path
made_front : (input : List ℕ) (path made : List (List Node)) (n : ℕ) (rows : List Row) → IsPathFront input path n →
    rows ≡ path_rows path → HasRowsOf made rows → IsPathFront input made n
made_front input path made n rows front is has =
    subst (λ (p : List (List Node)). IsPathFront input p n) (same_instances path made front.spelled.0 has.is (sym is ∙ sym has.same)) front

one_path : (input : List ℕ) (path : List (List Node)) (n : ℕ) → IsPathFront input path n →
    (other : List (List Node)) (m : ℕ) → IsPathFront input other m →
    IsUnless (let ok : Result (List (List Node) × ℕ) PathFault = Ok (path, n) in ok) (Ok (other, m)) OutOfMemory
one_path input path n front other m second =
    let same = same_front input path other n m front second in
    inl (ap (λ (p : List (List Node)). let ok : Result (List (List Node) × ℕ) PathFault = Ok (p, n) in ok) same.0
    ∙ ap (λ (k : ℕ). let ok : Result (List (List Node) × ℕ) PathFault = Ok (other, k) in ok) same.1)

pub read_instances-requires : goal.read_instances-requires
read_instances-requires c =
    let found = c.in_ok-views.ensures.found in
    subst (AllByRecursion IsBeforeEnd) (sym found.2) (path_rows_are_inner found.0 found.1.spelled.0.nodes)

pub returns-in_err-views-clause-only : goal.returns-in_err-views-clause-only
returns-in_err-views-clause-only c = λ path n front. absurd
    (no_fault_at_front c.args.bytes.now c.in_err-views.field-0.0 path n front c.in_err-views.ensures.fault)

pub returns-in_err-views-clause-only_fault : goal.returns-in_err-views-clause-only_fault
returns-in_err-views-clause-only_fault c = λ fault first.
    let p = err_from_is_err_and c.from_residual.result c.from_residual.ensures.1 in
    let same = same_fault c.args.bytes.now c.in_err-views.field-0.0 fault c.in_err-views.ensures.fault first in
    rw (p.1, p.2) (inl (ap (λ (f : PathFault). let err : Result (List (List Node) × ℕ) PathFault = Err f in err) same))

pub returns-clause-found : goal.returns-clause-found
returns-clause-found c =
    let found = c.in_ok-views.ensures.found in
    rw c.from_instances.ensures (made_front c.args.bytes.now found.0 _ c.in_ok-views.len _ found.1 found.2 c.in_ok-instances.ensures)

pub returns-clause-only : goal.returns-clause-only
returns-clause-only c = one_path c.args.bytes.now c.from_instances.result c.in_ok-views.len (returns-clause-found c)

pub returns-clause-only_fault : goal.returns-clause-only_fault
returns-clause-only_fault c = λ fault first. absurd
    (no_fault_at_front c.args.bytes.now fault c.in_ok-views.ensures.found.0 c.in_ok-views.len c.in_ok-views.ensures.found.1 first)
