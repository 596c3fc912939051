use Rattle.std.proofs.Common.{◌++◌, rules}
use Rattle.std.proofs.Output.{has_written_append}
use Rattle.uefi_text.specs.Bytes.{hex_text}
use Rattle.uefi_text.proofs.Bytes.Hexadecimal.{hex_text-more}
use Rattle.uefi_text.proofs.print_parts.DigitsDisplay.fmt.Goals as goal

pub loop-rest-preserved : goal.loop-rest-preserved
loop-rest-preserved g c = λ plain.
    let so_far = c.loop-rest.invariant plain in (
      so_far.0 ++ hex_text c.split_at.result.0.now,
      has_written_append _ _ _ _ _ _ so_far.1 (search rules),
      hex_text-more so_far.0 _ c.loop-rest.rest.now _ _ _ c.split_at.ensures.front c.split_at.ensures.back so_far.2,
    )
