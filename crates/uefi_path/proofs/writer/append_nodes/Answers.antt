use Rattle.std.proofs.Common.{List, ℕ, ◌++◌, ap, ◌∙◌, take, append_assoc}
use Rattle.std.specs.List.{flat_map}
use Rattle.std.proofs.lemmas.Result.{err_from_is_err_and}
use Rattle.uefi_path.specs.Node.{node_bytes}
use Rattle.uefi_path.proofs.writer.append_nodes.Goals as goal

pub returns-in_err-append_node-clause-err : goal.returns-in_err-append_node-clause-err
returns-in_err-append_node-clause-err c =
    let p = err_from_is_err_and c.from_residual.result c.from_residual.ensures.1 in
    let so_far = flat_map node_bytes (take c.loop-node.node-index c.args.nodes.now) in
    let more = c.in_err-append_node.ensures.err in
    rw p.1 (so_far ++ more.0, more.1 ∙ ap (λ (t : List ℕ). t ++ more.0) c.loop-node.invariant.written ∙ append_assoc c.args.out.now.items so_far more.0)
