use Rattle.std.specs.String.{string_bytes}
use Rattle.value_texts.proofs.JsonTexts.{all_written}
use Rattle.value_texts.proofs.json_text.append_units_inside.Goals as goal

pub returns : goal.returns
returns c = all_written (string_bytes c.loop-unit.json) c.loop-unit.rest.now _ c.in_default.ensures.cases c.loop-unit.invariant
