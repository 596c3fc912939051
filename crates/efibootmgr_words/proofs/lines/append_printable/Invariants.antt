use Rattle.std.proofs.Common.{◌≡◌, ◌++◌, map, take}
use Rattle.std.specs.String.{string_bytes}
use Rattle.efibootmgr_words.specs.Listing.{printed}
use Rattle.efibootmgr_words.proofs.lines.append_printable.Given as goal

abbrev pub invariant-loop-byte : goal.invariant-loop-byte
invariant-loop-byte l = string_bytes l.text ≡ string_bytes l.initial.text ++ map printed (take l.byte-index l.bytes)
