use Rattle.std.proofs.Common.{take}
use Rattle.sha2.specs.Hashers.{Holds256}
use Rattle.efi_images.specs.Digest.{range_bytes}
use Rattle.efi_images.proofs.digest.digest_of.Given as goal

abbrev pub invariant-loop-range : goal.invariant-loop-range
invariant-loop-range l = Holds256 l.hasher (range_bytes l.file (take l.range-index l.ranges))
