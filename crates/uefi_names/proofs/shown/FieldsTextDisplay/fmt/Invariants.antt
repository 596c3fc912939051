use Rattle.std.proofs.Common.{◌∷◌, take}
use Rattle.std.specs.Prelude.{flat_map}
use Rattle.std.specs.Fmt.{HasWritten, IsPlainFormatter}
use Rattle.uefi_text.specs.Segment.{comma}
use Rattle.uefi_names.specs.Shown.{field_text}
use Rattle.uefi_names.proofs.shown.FieldsTextDisplay.fmt.Given as goal

abbrev pub invariant-loop-field : goal.invariant-loop-field
invariant-loop-field g l =
    IsPlainFormatter l.initial.f
    → HasWritten g.W.Write.write_str_gives l.initial.f
    (flat_map (λ field. comma ∷ field_text field l.fn.self.body.now) (take l.field-index l.others)) l.f
