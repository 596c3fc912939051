use Rattle.std.proofs.lemmas.Result.{err_from_is_err_and}
use Rattle.uefi_text.proofs.Read.Instances.{path_more, path_done, path_refused, map_more, none_left, comma_first}
use Rattle.uefi_text.proofs.reader.read_instances.Goals as goal

pub returns-in_err-nodes-clause-fault : goal.returns-in_err-nodes-clause-fault
returns-in_err-nodes-clause-fault c =
    let p = err_from_is_err_and c.from_residual.result c.from_residual.ensures.1 in
    rw (p.1, p.2) (λ memory.
    path_refused c.args.text.now _ c.loop-instances.rest.now c.in_err-nodes.field-0.0 c.loop-instances.invariant (c.in_err-nodes.ensures.fault memory))

pub returns-in-empty-clause-found : goal.returns-in-empty-clause-found
returns-in-empty-clause-found c =
    path_done c.args.text.now _ _ c.loop-instances.rest.now c.in_ok-nodes.nodes.items c.in_ok-nodes.behind.now
    c.loop-instances.invariant c.in_ok-nodes.ensures.found
    (map_more (λ nodes. nodes.items) c.loop-instances.instances.items _ c.in_ok-nodes.nodes c.in_ok-push.ensures.items)
    (none_left c.in_ok-nodes.behind.now c.in-empty.len_below)

pub loop-instances-preserved : goal.loop-instances-preserved
loop-instances-preserved c =
    let read = c.in_ok-nodes.ensures.found in
    path_more c.args.text.now _ _ c.loop-instances.rest.now c.in_ok-nodes.nodes.items c.in_ok-nodes.behind.now _ c.loop-instances.invariant read
    (map_more (λ nodes. nodes.items) c.loop-instances.instances.items _ c.in_ok-nodes.nodes c.in_ok-push.ensures.items)
    (comma_first c.in_ok-nodes.behind.now read.closed c.in-len1-up.len_at_least)
