use Rattle.std.specs.String.{string_bytes}
use Rattle.std.proofs.lemmas.Result.{on_ok_weaker}
use Rattle.efibootmgr_words.proofs.OrderWords.{three_lines}
use Rattle.efibootmgr_words.proofs.lines.append_numbers.Goals as goal

pub returns : goal.returns
returns c =
    on_ok_weaker c.append_seconds_line.result
    (three_lines c.args.vars.now c.number_of.result c.number_of-2.result c.number_of-3.result (string_bytes c.args.text.now)
    (string_bytes c.append_digits_line.new.text) (string_bytes c.append_digits_line-2.new.text) (string_bytes c.append_seconds_line.new.text)
    c.number_of.ensures c.number_of-2.ensures c.number_of-3.ensures c.in_ok-append_digits_line.ensures c.in_ok-append_digits_line-2.ensures)
    c.append_seconds_line.ensures
