use Rattle.std.proofs.Common.{take}
use Rattle.std.specs.Prelude.{flat_map}
use Rattle.std.specs.Int.{w16, to_le_bytes}
use Rattle.std.specs.Fmt.{HasWritten, IsPlainFormatter}
use Rattle.uefi_text.specs.Bytes.{hex_text}
use Rattle.uefi_text.proofs.print_parts.NameDigitsDisplay.fmt.Given as goal

abbrev pub invariant-loop-unit : goal.invariant-loop-unit
invariant-loop-unit g l =
    IsPlainFormatter l.initial.f
    → HasWritten g.W.Write.write_str_gives l.initial.f (flat_map (λ unit. hex_text (to_le_bytes w16 unit)) (take l.unit-index l.unit-items)) l.f
