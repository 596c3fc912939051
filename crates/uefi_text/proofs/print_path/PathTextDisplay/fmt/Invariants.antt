use Rattle.std.proofs.Common.{◌∷◌, take, map}
use Rattle.std.specs.Prelude.{flat_map}
use Rattle.std.specs.Fmt.{HasWritten, IsPlainFormatter}
use Rattle.uefi_text.specs.Segment.{comma, instance_text}
use Rattle.uefi_text.specs.Printed.{segment_of}
use Rattle.uefi_text.proofs.print_path.PathTextDisplay.fmt.Given as goal

abbrev pub invariant-loop-nodes : goal.invariant-loop-nodes
invariant-loop-nodes g l =
    IsPlainFormatter l.initial.f
    → HasWritten g.W.Write.write_str_gives l.initial.f
    (flat_map (λ nodes. comma ∷ instance_text (map segment_of nodes.items)) (take l.nodes-index l.others)) l.f
