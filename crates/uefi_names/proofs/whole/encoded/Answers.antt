use Rattle.std.proofs.Common.{length, drop, ap, sym, ◌∙◌, arith, List, ℕ, ◌++◌}
use Rattle.std.specs.Str.{chars}
use Rattle.std.proofs.lemmas.List.{length_push}
use Rattle.std.proofs.lemmas.Iterator.{YieldsList-from_chars}
use Rattle.std.proofs.lemmas.Iterator.Consumers.{YieldsList-turn, YieldsList-end}
use Rattle.uefi_names.specs.Spelled.{chars_read}
use Rattle.uefi_names.proofs.Chars.{char_taken, char_refused, chars_done}
use Rattle.uefi_names.proofs.whole.encoded.Goals as goal

pub loop-character-preserved : goal.loop-character-preserved
loop-character-preserved c =
    let next = YieldsList-turn (YieldsList-from_chars c.args.text.now c.utf8.text cc) c.loop-character.yielded _
    c.loop-character.yielded_by _ _ c.in-Some.character c.in-Some.is c.next.ensures.steps in
    let all = chars c.args.text.now in
    ap (λ (n : ℕ). chars_read c.args.encoding c.append_char.new.bytes.items (drop n all)) (length_push c.loop-character.yielded c.in-Some.character)
    ∙ char_taken c.args.encoding c.loop-character.bytes.items c.append_char.new.bytes.items all (length c.loop-character.yielded) c.in-Some.character next (sym c.is_shown.ensures ∙ c.if-not-is_shown.false) c.in_ok-append_char.ensures
    ∙ c.loop-character.invariant

pub returns-then-not-is_shown : goal.returns-then-not-is_shown
returns-then-not-is_shown c =
    let next = YieldsList-turn (YieldsList-from_chars c.args.text.now c.utf8.text cc) c.loop-character.yielded _
    c.loop-character.yielded_by _ _ c.in-Some.character c.in-Some.is c.next.ensures.steps in
    sym (char_refused c.args.encoding c.loop-character.bytes.items (chars c.args.text.now) (length c.loop-character.yielded) c.in-Some.character next (sym c.is_shown.ensures ∙ c.if-not-is_shown.true))
    ∙ c.loop-character.invariant

pub returns : goal.returns
returns c =
    let none = YieldsList-end (YieldsList-from_chars c.args.text.now c.utf8.text cc) c.loop-character.yielded _
    c.loop-character.yielded_by _ _ c.in-None.is c.next.ensures.steps in
    chars_done c.args.encoding c.loop-character.bytes.items _ (chars c.args.text.now) (length c.loop-character.yielded) (omega (arith, none.1)) (◌∙◌ {A = List ℕ} c.in_ok-extend_from_slice.ensures.items (ap (λ (them : List ℕ). c.loop-character.bytes.items ++ them) c.closing_bytes.ensures))
    ∙ c.loop-character.invariant
