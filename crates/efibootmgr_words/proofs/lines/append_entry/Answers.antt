use Rattle.std.proofs.Common.{[], ◌∷◌}
use Rattle.std.proofs.lemmas.Result.{on_ok_weaker}
use Rattle.std.specs.Char.{encode_utf8}
use Rattle.std.specs.String.{string_bytes}
use Rattle.efibootmgr_words.proofs.Listings.{line_ends, if_pushed}
use Rattle.efibootmgr_words.proofs.lines.append_entry.Goals as goal

pub returns : goal.returns
unfolding encode_utf8
returns c =
    let option = c.in_ok-append_option.ensures in
    on_ok_weaker c.push.result
    (λ pushed.
    let line =
    line_ends c.args.form c.args.number c.args.bytes.now (string_bytes c.args.listing.now.text) (string_bytes c.append_front.new.text)
    (string_bytes c.append_option.new.listing.text) (string_bytes c.push.new.self) option.0 option.1 option.2
    c.in_ok-append_front.ensures option.3.0 pushed
    in
    (line.0, option.1, line.1, (line.2, option.3.1)))
    (if_pushed c.push.result (string_bytes c.push.new.self) (string_bytes c.append_option.new.listing.text) (10 ∷ []) c.push.ensures.bytes)
