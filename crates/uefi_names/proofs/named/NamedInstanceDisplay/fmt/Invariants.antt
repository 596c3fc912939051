use Rattle.std.proofs.Common.{◌∷◌, take}
use Rattle.std.specs.Prelude.{flat_map}
use Rattle.std.specs.Fmt.{HasWritten, IsPlainFormatter}
use Rattle.uefi_text.specs.Segment.{slash}
use Rattle.uefi_names.specs.Named.{shown_node}
use Rattle.uefi_names.proofs.named.NamedInstanceDisplay.fmt.Given as goal

abbrev pub invariant-loop-node : goal.invariant-loop-node
invariant-loop-node g l =
    IsPlainFormatter l.initial.f
    → HasWritten g.W.Write.write_str_gives l.initial.f
    (flat_map (λ node. slash ∷ shown_node l.table node) (take l.node-index l.others)) l.f
