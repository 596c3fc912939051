use Rattle.std.proofs.Common.{◌≡◌, length}
use Rattle.efi_images.specs.Names.{is_same_text}
use Rattle.efi_images.proofs.names.is_same_text.Given as goal

abbrev pub invariant-loop-first : goal.invariant-loop-first
invariant-loop-first l = is_same_text l.one l.other ≡ is_same_text l.fn.one l.fn.other

abbrev pub decreases-loop-first : goal.decreases-loop-first
decreases-loop-first l = length l.one
