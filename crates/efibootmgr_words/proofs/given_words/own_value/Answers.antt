use Rattle.std.proofs.Common.{◌≢◌, length, sym, ◌∙◌, arith}
use Rattle.std.proofs.lemmas.Bool.{eqb-true, eqb-false}
use Rattle.efibootmgr_words.proofs.Letters.{own_some, own_none}
use Rattle.efibootmgr_words.proofs.given_words.own_value.Goals as goal

pub returns-then-is_empty : goal.returns-then-is_empty
returns-then-is_empty c = sym (own_none c.args.rest.now (eqb-true (length c.args.rest.now) 0 (sym c.is_empty.ensures ∙ c.if-is_empty.true)))

pub returns-else-is_empty : goal.returns-else-is_empty
returns-else-is_empty c =
    let some : length c.args.rest.now ≢ 0 = eqb-false (length c.args.rest.now) 0 (sym c.is_empty.ensures ∙ c.if-is_empty.false) in
    sym (own_some c.args.rest.now c.utf8.rest (omega (arith, some)))
