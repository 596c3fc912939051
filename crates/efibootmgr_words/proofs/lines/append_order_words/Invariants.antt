use Rattle.std.proofs.Common.{◌≡◌, ◌++◌, [], length}
use Rattle.std.specs.String.{string_bytes}
use denote.Text.{Utf8}
use denote.Shadow.{shadow}
use Rattle.efibootmgr_words.specs.Lines.{order_words}
use Rattle.efibootmgr_words.proofs.lines.append_order_words.Given as goal

-- What is written, with the words of the numbers that are left, is what was there and the words of all.
abbrev pub invariant-loop-number : goal.invariant-loop-number
invariant-loop-number l = record {
  comma : shadow (Utf8 l.comma);
  words : string_bytes l.text ++ order_words l.comma l.rest ≡ string_bytes l.fn.text ++ order_words [] l.fn.bytes;
}

abbrev pub decreases-loop-number : goal.decreases-loop-number
decreases-loop-number l = length l.rest
