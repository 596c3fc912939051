use Rattle.std.proofs.Common.{◌≡◌, ◌≤◌, length}
use Rattle.efi_images.specs.Names.{folded}
use Rattle.efi_images.proofs.names.next_mark.Given as goal

abbrev pub invariant-loop-text : goal.invariant-loop-text
invariant-loop-text l = (folded l.text ≡ folded l.fn.text) × (length l.text ≤ length l.fn.text)

abbrev pub decreases-loop-text : goal.decreases-loop-text
decreases-loop-text l = length l.text
