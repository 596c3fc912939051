use Rattle.std.proofs.Common.{arith}
use Rattle.std.proofs.lemmas.Bool.{eqb-true}
use Rattle.std.proofs.lemmas.Str.{IsCharBoundary-after_ascii}
use Rattle.uefi_names.proofs.Cuts.{space_under}
use Rattle.std.specs.Prelude.{slice_index}
use Rattle.uefi_names.proofs.cut.without_first.Goals as goal

pub range_from-requires : goal.range_from-requires
range_from-requires c = λ _.
    let first = eqb-true (slice_index c.args.text.now 0) 0x20 c.requires in
    IsCharBoundary-after_ascii c.args.text.now 0 c.utf8.text (space_under c.args.text.now c.requires) (omega (arith, first))
