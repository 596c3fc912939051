use Rattle.std.proofs.Common.{◌++◌, rules}
use Rattle.std.proofs.Output.{has_written_append}
use Rattle.uefi_names.specs.Shown.{escaped}
use Rattle.uefi_names.proofs.Texts.{ascii-more}
use Rattle.uefi_names.proofs.shown.AsciiTextDisplay.fmt.Goals as goal

pub loop-byte-preserved-in_ok-write-in_default-eq0 : goal.loop-byte-preserved-in_ok-write-in_default-eq0
loop-byte-preserved-in_ok-write-in_default-eq0 g c = λ plain.
    let so_far = c.loop-byte.invariant plain in
    (so_far.0 ++ escaped c.in-Some.byte.now, has_written_append _ _ _ _ _ _ so_far.1 (search rules), ascii-more so_far.0 _ _ _ _ _ c.in-Some.ensures.cases.0 (search rules) (search rules) so_far.2)
