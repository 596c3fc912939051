use Rattle.std.proofs.Common.{◌++◌, rules, arith}
use Rattle.std.proofs.Output.{has_written_append}
use Rattle.uefi_names.specs.Shown.{escaped}
use Rattle.uefi_names.proofs.Texts.{units-more}
use Rattle.uefi_names.proofs.shown.UnitsTextDisplay.fmt.Goals as goal

pub loop-unit-preserved : goal.loop-unit-preserved
loop-unit-preserved g c = λ plain.
    let so_far = c.loop-unit.invariant plain in
    (so_far.0 ++ escaped c.from_le_bytes-unit.result, has_written_append _ _ _ _ _ _ so_far.1 (search rules), units-more so_far.0 _ c.from_le_bytes-unit.result _ _ _ c.in-Some.ensures.cases.0 c.in-Some.ensures.cases.1 (omega (arith, c.in-Some.ensures.cases.2)) (search rules) (search rules) so_far.2)
