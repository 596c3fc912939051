use Rattle.std.proofs.Common.{◌≡◌, ◌++◌, ◌∷◌, take, flat_map}
use Rattle.std.specs.String.{string_bytes}
use Rattle.uefi_text.specs.Segment.{slash}
use Rattle.uefi_names.specs.Named.{named_node}
use Rattle.uefi_names.proofs.named.append_instance.Given as goal

abbrev pub invariant-loop-node : goal.invariant-loop-node
invariant-loop-node l =
    string_bytes l.text ≡ string_bytes l.initial.text ++ flat_map (λ node. slash ∷ named_node l.table node) (take l.node-index l.others)
