use Rattle.std.proofs.Common.{refl}
use Rattle.std.proofs.Output.{has_written_append, has_written_of_eq}
use Rattle.uefi_text.specs.Segment.{comma}
use Rattle.uefi_names.specs.Shown.{field_text}
use Rattle.uefi_names.proofs.Texts.{joined}
use Rattle.uefi_names.proofs.shown.FieldsTextDisplay.fmt.Goals as goal

pub returns-clause-writes : goal.returns-clause-writes
returns-clause-writes g c = λ plain ok.
    let wrote = c.in_ok-write.ensures.writes plain refl in
    has_written_of_eq _ _ _ _ _
    (joined comma (λ field. field_text field c.args.self.now.body.now) c.args.self.now.fields.now c.in-Some.first.now c.in-Some.others.now c.loop-field.field-index c.in-Some.ensures.cases.0 c.loop-field-test.false)
    (has_written_append _ _ _ _ _ _ wrote (c.loop-field.invariant wrote.plain))
