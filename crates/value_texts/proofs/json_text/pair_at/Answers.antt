use Rattle.std.proofs.lemmas.List.{nil_from_length}
use Rattle.value_texts.proofs.JsonTexts.{last_unit, pair_first, lone_first}
use Rattle.value_texts.proofs.json_text.pair_at.Goals as goal

pub returns-in_default-clause-none : goal.returns-in_default-clause-none
returns-in_default-clause-none c =
    last_unit c.args.high c.args.after.now (nil_from_length c.args.after.now c.in_default.ensures.cases)

pub returns-in-Some-pair_char-clause-some : goal.returns-in-Some-pair_char-clause-some
returns-in-Some-pair_char-clause-some c =
    pair_first c.args.high c.in-Some.low.now c.in-Some-pair_char.character c.args.after.now c.in-Some.rest.now c.in-Some.ensures.cases.0 c.in-Some-pair_char.ensures

pub returns-in-None-clause-none : goal.returns-in-None-clause-none
returns-in-None-clause-none c =
    lone_first c.args.high c.in-Some.low.now c.args.after.now c.in-Some.rest.now c.in-Some.ensures.cases.0 c.in-None.ensures
