use Rattle.std.proofs.Common.{◌≡◌, [], drop, map}
use Rattle.uefi_names.specs.Spelled.{groups_read}
use Rattle.uefi_names.proofs.spelled.group_bytes.Given as goal

abbrev pub invariant-loop-part : goal.invariant-loop-part
invariant-loop-part l =
    groups_read l.group l.bytes.items (map (λ part. part.now) (drop l.part-index l.parts)) ≡ groups_read l.group [] (map (λ part. part.now) l.parts)
