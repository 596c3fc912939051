-- The bytes so far are those of the digests so far.
use Rattle.std.proofs.Common.{◌≡◌, ◌++◌, ◌+◌, ◌*◌, length}
use Rattle.std.specs.List.{flat_map}
use Rattle.boot_notes.specs.Bytes.{digest_bytes}
use Rattle.boot_notes.proofs.reader.split_digests.Given as goal

abbrev pub invariant-loop-index : goal.invariant-loop-index
invariant-loop-index l = record {
  read : l.bytes ≡ flat_map digest_bytes l.digests.items ++ l.rest;
  count : length l.digests.items ≡ l.index;
  size : length l.bytes ≡ 12 * l.index + length l.rest;
}
