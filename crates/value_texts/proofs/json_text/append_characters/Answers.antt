use Rattle.std.specs.Str.{chars}
use Rattle.std.proofs.lemmas.Iterator.{YieldsList-from_chars}
use Rattle.std.proofs.lemmas.Iterator.Consumers.{YieldsList-end}
use Rattle.value_texts.specs.Json.{character_json}
use Rattle.value_texts.proofs.JsonTexts.{one_more, all_done}
use Rattle.value_texts.proofs.json_text.append_characters.Goals as goal

pub loop-character-preserved : goal.loop-character-preserved
loop-character-preserved c =
    one_more character_json _ _ _ c.loop-character.yielded c.in-Some.character c.loop-character.invariant c.in_ok-append_character.ensures

pub returns : goal.returns
returns c =
    let none = YieldsList-end (YieldsList-from_chars c.args.text.now c.utf8.text cc) c.loop-character.yielded _
    c.loop-character.yielded_by _ _ c.in-None.is c.next.ensures.steps in
    all_done character_json _ _ c.loop-character.yielded (chars c.args.text.now) c.loop-character.invariant none.0
