use Rattle.std.proofs.Common.{ap, map, List}
use Rattle.std.specs.Prelude.{Err}
use Rattle.uefi_path.specs.declared.node.Node.{Node}
use Rattle.uefi_text.specs.Bytes.{Each}
use Rattle.uefi_names.specs.Cut.{cut_named}
use Rattle.uefi_names.specs.Reading.{IsNamedSegment}
use Rattle.uefi_names.proofs.Finds.{no_path}
use Rattle.uefi_names.proofs.reading.path_read.Goals as goal

pub returns-in_default-clause-fault : goal.returns-in_default-clause-fault
returns-in_default-clause-fault c = λ other path named.
    let none : (p : List (List Node)) → Each (Each (IsNamedSegment c.args.table.now)) (cut_named c.args.text.now) p → ⊥ = rw c.in_default.is at c.in_ok-instances.ensures in
    none path named.nodes

pub returns-clause-fault : goal.returns-clause-fault
returns-clause-fault c = λ other path named.
    let empty = c.in-Err.ensures.refused.0 (ap Err c.in-Err.ensures.handed_back) in
    no_path (Each (IsNamedSegment c.args.table.now)) (cut_named c.args.text.now) _ path (ap (map (λ nodes. nodes.items)) empty) (rw c.in-Some.is at c.in_ok-instances.ensures) named.nodes named.valid.some
