use Rattle.std.proofs.Common.{◌≡◌, ◌+◌, List, [], ◌∷◌, ◌++◌, map, take, sym, ap, subst, ◌∙◌, Vec, Global}
use Rattle.std.specs.List.{AllByRecursion}
use Rattle.std.proofs.lemmas.List.{map_push, map_more}
use Rattle.uefi_path.specs.declared.node.Node.{Node}
use Rattle.uefi_path.specs.Node.{IsNode}
use Rattle.uefi_path.proofs.Bytes.{AllByRecursion-append}
use Rattle.uefi_path.proofs.path.Path.copy.Goals as goal

abbrev nodes_of : Vec Node Global → List Node
nodes_of nodes = nodes.items

pub loop-nodes-preserved : goal.loop-nodes-preserved
loop-nodes-preserved c =
    let all = c.deref-nodes-items.result.now in
    let item = c.nodes-item.result.items in
    let done = map nodes_of (take c.loop-nodes.nodes-index all) in
    let one_more : map nodes_of (take (c.loop-nodes.nodes-index + 1) all) ≡ done ++ item ∷ [] =
    map_more nodes_of all c.loop-nodes.nodes-index c.nodes-item.result c.loop-nodes-test.true
    ∙ ap (λ (nodes : List Node). done ++ nodes ∷ []) (sym (ap nodes_of c.nodes-item.is)) in
    let copied : c.in_ok-copy_nodes.field-0.items ≡ item = c.in_ok-copy_nodes.ensures.equal ∙ c.deref.ensures.value in
    let valid : AllByRecursion IsNode item = subst (AllByRecursion IsNode) c.deref.ensures.value c.in_ok-copy_nodes.ensures.valid in
    record {
      copied = ap (map nodes_of) c.in_ok-push.ensures.items ∙ map_push nodes_of c.loop-nodes.instances.items c.in_ok-copy_nodes.field-0
          ∙ ap (λ (t : List (List Node)). t ++ c.in_ok-copy_nodes.field-0.items ∷ []) c.loop-nodes.invariant.copied
          ∙ ap (λ (nodes : List Node). done ++ nodes ∷ []) copied ∙ sym one_more;
      valid = subst (AllByRecursion (AllByRecursion IsNode)) (sym one_more)
          (AllByRecursion-append (AllByRecursion IsNode) done (item ∷ []) c.loop-nodes.invariant.valid (valid, tt));
    }
