-- The fields of the words so far are written.
use Rattle.std.proofs.Common.{◌≡◌, ◌++◌, take, map}
use Rattle.std.specs.List.{AllByRecursion}
use Rattle.std.specs.String.{string_bytes}
use Rattle.change_records.specs.Fields.{IsShort, fields_bytes}
use Rattle.change_records.proofs.writer.append_words.Given as goal

abbrev pub invariant-loop-word : goal.invariant-loop-word
invariant-loop-word l = record {
  written : l.out.items ≡ l.fn.out.items ++ fields_bytes (map string_bytes (take l.word-index l.words));
  short : AllByRecursion IsShort (map string_bytes (take l.word-index l.words));
}
