use Rattle.std.proofs.Common.{◌≡◌, [], length, drop}
use Rattle.std.specs.Str.{chars}
use Rattle.uefi_names.specs.Spelled.{chars_read}
use Rattle.uefi_names.proofs.whole.encoded.Given as goal

abbrev pub invariant-loop-character : goal.invariant-loop-character
invariant-loop-character l =
    chars_read l.encoding l.bytes.items (drop (length l.yielded) (chars l.text)) ≡ chars_read l.encoding [] (chars l.text)
