use Rattle.std.proofs.Common.{◌∷◌, take}
use Rattle.std.specs.Prelude.{flat_map}
use Rattle.std.specs.Fmt.{HasWritten, IsPlainFormatter}
use Rattle.uefi_text.specs.Segment.{slash}
use Rattle.uefi_text.specs.Printed.{node_text}
use Rattle.uefi_text.proofs.print_path.InstanceTextDisplay.fmt.Given as goal

abbrev pub invariant-loop-node : goal.invariant-loop-node
invariant-loop-node g l =
    IsPlainFormatter l.initial.f
    → HasWritten g.W.Write.write_str_gives l.initial.f (flat_map (λ node. slash ∷ node_text node) (take l.node-index l.others)) l.f
