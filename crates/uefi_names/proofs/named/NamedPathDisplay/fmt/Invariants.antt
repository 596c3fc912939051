use Rattle.std.proofs.Common.{◌∷◌, take}
use Rattle.std.specs.Prelude.{flat_map}
use Rattle.std.specs.Fmt.{HasWritten, IsPlainFormatter}
use Rattle.uefi_text.specs.Segment.{comma}
use Rattle.uefi_names.specs.Named.{shown_instance}
use Rattle.uefi_names.proofs.named.NamedPathDisplay.fmt.Given as goal

abbrev pub invariant-loop-nodes : goal.invariant-loop-nodes
invariant-loop-nodes g l =
    IsPlainFormatter l.initial.f
    → HasWritten g.W.Write.write_str_gives l.initial.f
    (flat_map (λ nodes. comma ∷ shown_instance l.table nodes.items) (take l.nodes-index l.others)) l.f
