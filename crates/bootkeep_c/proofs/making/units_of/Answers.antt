use Rattle.std.proofs.Common.{ℕ, ◌∷◌, [], ◌++◌, List, length, drop, sym, ap, ◌∙◌, arith}
use Rattle.std.specs.List.{flat_map}
use Rattle.std.specs.Char.Escape.{encode_utf16}
use Rattle.std.specs.Str.{chars}
use Rattle.std.proofs.lemmas.List.{at_drop_all, length_push, append-nil}
use Rattle.std.proofs.lemmas.Iterator.{YieldsList-from_chars}
use Rattle.std.proofs.lemmas.Iterator.Consumers.{YieldsList-turn, YieldsList-end}
use Rattle.bootkeep_c.proofs.PartsOfOptions.{more_units}
use Rattle.bootkeep_c.proofs.making.units_of.Goals as goal

pub loop-character-preserved : goal.loop-character-preserved
loop-character-preserved c =
    let t = YieldsList-turn (YieldsList-from_chars c.args.text.now c.utf8.text cc) c.loop-character.yielded _
    c.loop-character.yielded_by _ _ c.in-Some.character c.in-Some.is c.next.ensures.steps in
    let units = c.loop-character.units.items in
    let all = chars c.args.text.now in
    ap (λ (u : List ℕ). u ++ flat_map encode_utf16 (drop (length (c.loop-character.yielded ++ c.in-Some.character ∷ [])) all))
    (c.in_ok-extend_from_slice.ensures.items ∙ ap (λ (u : List ℕ). units ++ u) c.encode_utf16.ensures.value)
    ∙ ap (λ (n : ℕ). (units ++ encode_utf16 c.in-Some.character) ++ flat_map encode_utf16 (drop n all))
    (length_push c.loop-character.yielded c.in-Some.character)
    ∙ more_units units all (length c.loop-character.yielded) c.in-Some.character t ∙ c.loop-character.invariant

pub returns : goal.returns
returns c =
    let t = YieldsList-end (YieldsList-from_chars c.args.text.now c.utf8.text cc) c.loop-character.yielded _
    c.loop-character.yielded_by _ _ c.in-None.is c.next.ensures.steps in
    let units = c.loop-character.units.items in
    sym (append-nil units)
    ∙ ap (λ (u : List ℕ). units ++ u)
    (sym (at_drop_all (flat_map encode_utf16) (chars c.args.text.now) (length c.loop-character.yielded)
    (omega (arith, t.1)))) ∙ c.loop-character.invariant
