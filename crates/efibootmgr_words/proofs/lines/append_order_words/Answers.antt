use Rattle.std.proofs.Common.{[], ◌∷◌, refl}
use Rattle.std.specs.String.{string_bytes}
use Rattle.efibootmgr_words.proofs.OrderWords.{one_more}
use Rattle.efibootmgr_words.proofs.lines.append_order_words.Goals as goal

pub loop-number-preserved : goal.loop-number-preserved
unfolding lib.Utf8.encode
loop-number-preserved c =
    let found = c.in-Some.ensures.found in
    record {
      comma = (44 ∷ [], (refl, refl));
      words = one_more (string_bytes c.loop-number.text) c.loop-number.comma.now c.loop-number.rest.now _ (string_bytes c.push_str.new.self)
          (string_bytes c.append_digits.new.text) c.in-Some.behind.now found.0 found.1 c.in-Some.number c.loop-number.invariant.words found.2
          found.3 c.in_ok-push_str.ensures.bytes c.in_ok-append_digits.ensures;
    }
