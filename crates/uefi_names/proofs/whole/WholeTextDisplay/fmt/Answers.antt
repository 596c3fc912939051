use Rattle.std.proofs.Common.{◌++◌, rules, sym}
use Rattle.std.proofs.Output.{has_written_append, has_written_of_eq}
use Rattle.uefi_names.specs.Shown.{char_text, chars_in}
use Rattle.uefi_names.proofs.Texts.{one-done, none-left}
use Rattle.uefi_names.proofs.whole.WholeTextDisplay.fmt.Goals as goal

pub loop-character-preserved : goal.loop-character-preserved
loop-character-preserved g c = λ plain.
    let so_far = c.loop-character.invariant plain in
    let encoding = c.args.self.now.encoding in (
      so_far.0 ++ char_text encoding c.in-Some.character,
      has_written_append _ _ _ _ _ _ so_far.1 (search rules),
      one-done (char_text encoding) so_far.0 c.in-Some.character (chars_in encoding c.in-Some.after.now) (chars_in encoding c.loop-character.rest.now) _ (sym c.in-Some.ensures.some) so_far.2,
    )

pub returns-clause-writes : goal.returns-clause-writes
returns-clause-writes g c = λ plain ok.
    let so_far = c.loop-character.invariant plain in
    let encoding = c.args.self.now.encoding in
    has_written_of_eq _ _ _ _ _ (none-left (char_text encoding) so_far.0 (chars_in encoding c.loop-character.rest.now) _ c.in_default.ensures.none so_far.2) so_far.1
