use Rattle.std.proofs.lemmas.Result.{IfOk-weaker}
use Rattle.std.proofs.Common.{refl, ◌∙◌, ap, arith}
use Rattle.std.specs.Str.{chars}
use Rattle.std.specs.Str.Iter.{chars_rest}
use Rattle.std.specs.Prelude.{List, ℕ}
use Rattle.efibootmgr_words.specs.Words.{own_value}
use Rattle.efibootmgr_words.proofs.Letters.{read_unknown, read_plain, read_valued, read_end}
use Rattle.efibootmgr_words.proofs.given_words.read_letters.Goals as goal

pub returns-in_default-row_of_letter : goal.returns-in_default-row_of_letter
returns-in_default-row_of_letter c =
    read_unknown c.args.table.now c.args.letters.now (chars_rest c.loop-letter.rest) (chars_rest c.next.new.self) c.args.given.now c.loop-letter.given
    c.in-Some.letter c.loop-letter.invariant c.in-Some.ensures.steps.0 c.in_default-row_of_letter.ensures

pub loop-letter-preserved : goal.loop-letter-preserved
loop-letter-preserved c =
    read_plain c.args.table.now c.args.letters.now (chars_rest c.loop-letter.rest) (chars_rest c.next.new.self) c.args.given.now c.loop-letter.given _
    c.in-Some.letter c.in-Some-row_of_letter.row.now c.loop-letter.invariant c.in-Some.ensures.steps.0 c.in-Some-row_of_letter.ensures c.in-Nothing.is
    c.in_ok-push-in-Nothing.ensures.items refl

pub returns-in-Value : goal.returns-in-Value
returns-in-Value c =
    IfOk-weaker c.read_value.result _ _
    (λ next added. read_valued c.args.table.now c.args.letters.now (chars_rest c.loop-letter.rest) (chars_rest c.next.new.self) c.args.given.now
    c.loop-letter.given c.read_value.new.given c.in-Some.letter c.in-Some-row_of_letter.row.now _ next c.loop-letter.invariant c.in-Some.ensures.steps.0
    c.in-Some-row_of_letter.ensures (λ same. grind (arith, c.in-Value.is, same))
    (c.own_value.ensures ∙ ap (λ (text : List ℕ). own_value (chars text)) c.as_str.ensures) added)
    c.read_value.ensures

pub returns : goal.returns
returns c =
    read_end c.args.table.now c.args.letters.now (chars_rest c.loop-letter.rest) c.args.given.now c.loop-letter.given c.loop-letter.invariant
    c.in_default.ensures.steps.0.0
