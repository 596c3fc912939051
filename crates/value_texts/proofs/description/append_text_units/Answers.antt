use Rattle.std.specs.Char.Escape.{encode_utf16}
use Rattle.std.specs.Str.{chars}
use Rattle.std.proofs.lemmas.Iterator.{YieldsList-from_chars}
use Rattle.std.proofs.lemmas.Iterator.Consumers.{YieldsList-end}
use Rattle.value_texts.proofs.JsonTexts.{all_done}
use Rattle.value_texts.proofs.description.append_text_units.Goals as goal

pub returns : goal.returns
returns c =
    let none = YieldsList-end (YieldsList-from_chars c.args.text.now c.utf8.text cc) c.loop-character.yielded _
    c.loop-character.yielded_by _ _ c.in-None.is c.next.ensures.steps in
    all_done encode_utf16 _ _ c.loop-character.yielded (chars c.args.text.now) c.loop-character.invariant none.0
