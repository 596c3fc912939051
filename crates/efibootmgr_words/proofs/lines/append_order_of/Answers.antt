use Rattle.std.specs.Prelude.{List, ℕ, [], ◌∷◌, ◌++◌, codes}
use Rattle.std.proofs.Common.{ap, append_assoc, ◌∙◌}
use Rattle.std.proofs.lemmas.Result.{on_ok_weaker}
use Rattle.std.specs.String.{string_bytes}
use Rattle.uefi_vars.specs.Family.{prefix_of}
use Rattle.efibootmgr_words.specs.Lines.{order_words}
use Rattle.efibootmgr_words.proofs.OrderWords.{line_closed}
use Rattle.efibootmgr_words.proofs.lines.append_order_of.Goals as goal

pub returns : goal.returns
unfolding lib.Utf8.encode
returns c =
    let text = string_bytes c.args.text.now in
    let front = prefix_of c.args.family in
    let words = order_words [] c.args.bytes.now in
    let named = c.in_ok-push_str.ensures.bytes ∙ ap (λ (it : List ℕ). text ++ it) c.prefix.ensures in
    on_ok_weaker c.push.result (λ is. is ∙ append_assoc text front (codes "Order: " ++ (words ++ 10 ∷ [])))
    (line_closed c.push.result (text ++ front) (codes "Order: ") words
    (string_bytes c.push_str-2.new.self) (string_bytes c.append_order_words.new.text) (string_bytes c.push.new.self)
    (c.in_ok-push_str-2.ensures.bytes ∙ ap (λ (it : List ℕ). it ++ codes "Order: ") named)
    c.in_ok-append_order_words.ensures c.push.ensures.bytes)
