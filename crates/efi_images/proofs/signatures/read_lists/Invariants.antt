use Rattle.std.proofs.Common.{◌-◌, ◌≤◌, List, ◌++◌, length, map}
use Rattle.efi_images.specs.Signatures.{ListParts, list_parts, HasLists, HasListFault}
use Rattle.efi_images.specs.declared.signatures.ListFault.{ListFault}
use Rattle.efi_images.proofs.signatures.read_lists.Given as goal

abbrev pub invariant-loop-place : goal.invariant-loop-place
invariant-loop-place l =
    (l.place ≤ length l.bytes)
    × ((others : List ListParts) → HasLists l.bytes l.place others → HasLists l.bytes 0 (map list_parts l.lists.items ++ others))
    × ((f : ListFault) → HasListFault l.bytes l.place f → HasListFault l.bytes 0 f)

abbrev pub decreases-loop-place : goal.decreases-loop-place
decreases-loop-place l = length l.bytes - l.place
