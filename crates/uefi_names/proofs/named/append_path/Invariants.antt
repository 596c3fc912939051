use Rattle.std.proofs.Common.{◌≡◌, ◌++◌, ◌∷◌, take, flat_map}
use Rattle.std.specs.String.{string_bytes}
use Rattle.uefi_text.specs.Segment.{comma}
use Rattle.uefi_names.specs.Named.{named_instance}
use Rattle.uefi_names.proofs.named.append_path.Given as goal

abbrev pub invariant-loop-nodes : goal.invariant-loop-nodes
invariant-loop-nodes l =
    string_bytes l.text ≡ string_bytes l.initial.text ++ flat_map (λ nodes. comma ∷ named_instance l.table nodes.items) (take l.nodes-index l.others)
