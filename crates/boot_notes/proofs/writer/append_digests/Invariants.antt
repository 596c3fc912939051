use Rattle.std.proofs.Common.{◌≡◌, ◌++◌, take}
use Rattle.std.specs.List.{flat_map}
use Rattle.boot_notes.specs.Bytes.{digest_bytes}
use Rattle.boot_notes.proofs.writer.append_digests.Given as goal

abbrev pub invariant-loop-kept : goal.invariant-loop-kept
invariant-loop-kept l = l.out.items ≡ l.fn.out.items ++ flat_map digest_bytes (take l.kept-index l.digests)
