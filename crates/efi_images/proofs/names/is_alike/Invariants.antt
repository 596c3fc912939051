use Rattle.std.proofs.Common.{◌≡◌, ◌-◌}
use Rattle.efi_images.specs.Names.{is_alike_for}
use Rattle.efi_images.proofs.names.is_alike.Given as goal

abbrev pub invariant-loop : goal.invariant-loop
invariant-loop l = is_alike_for 64 l.fn.one l.fn.other ≡ is_alike_for (64 - l.counter) l.one l.other
