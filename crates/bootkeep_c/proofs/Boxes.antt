-- The seal and its parts own what a box at the same types owns.
use mir.Syntax.{impl, tnil, dnil}
use mathlib.Core.List.{[]}
use Rattle.std.specs.Prelude.{◌≡◌, refl, Option, Some, None, IsSome}
use denote.Signature.{Slot, plain}
use Rattle.std_alloc.proofs.BoxSteps.Form.{Bx}
use Rattle.std_heap.specs.contracts.Global as Heap
use Rattle.std_heap.specs.contracts.GlobalAllocator.TheImpl.{ghosts, dict}
use Rattle.std_heap.proofs.Global.TheLaws as heap
use Rattle.boot_requests.specs.contracts.keeper.Keeper as Keeper
use Rattle.boot_requests.proofs.keeper.Keeper.TheLaws as keeper
use Rattle.bootkeep_c.specs.contracts.handle.parts.Parts as Parts
use Rattle.bootkeep_c.specs.contracts.handle.Seal as Seal

abbrev pub E : Bx
E = record {
  row = Keeper.the_row;
  laws = keeper.the_row_laws;
  al = record { row = Heap.the_row; laws = heap.the_row_laws; g = ghosts; d = dict; drops = impl [] tnil dnil };
}

abbrev pub FromParts : Slot 0
FromParts = plain (λ _. Parts.the_row Keeper.the_row Heap.the_row ghosts)

abbrev pub FromSeal : Slot 0
FromSeal = plain (λ _. Seal.the_row)

-- what there is, if there is something
pub kept_value : {X : Type 0} → (kept : Option X) → IsSome kept → (x : X) × (kept ≡ Some x)
kept_value (Some x) some = (x, refl)
kept_value None some = cc
