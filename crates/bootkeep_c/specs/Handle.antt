-- What C's handle of a keeper owns: the keeper in a box, if it is open.
use Rattle.std.specs.Prelude.{ℕ, Option, Some, None}
use base.Fml.{Fml, ftrue}
use base.Stored.{Coded}
use denote.RawPtr.{Ptr}
use Rattle.std.specs.Box.Ownership.{box_owns}
use Rattle.std.specs.Global.{Global}
use Rattle.std.specs.Coded.{coded_option}
use Rattle.std_heap.specs.contracts.GlobalAllocator.TheImpl.{ghosts}
use Rattle.boot_requests.specs.contracts.keeper.Keeper.{the_row}

-- nothing, or the box at the pointer with the keeper of this value in it
abbrev pub seal_owns : Global → Ptr → Option the_row.Denot → Fml
seal_owns alloc at None = ftrue
seal_owns alloc at (Some keeper) = box_owns (ghosts.dealloc_token alloc) the_row at keeper

abbrev pub kept_coded : Coded (Option the_row.Denot)
kept_coded = coded_option the_row.coded

-- the number by which C is told whether a keeper is open
abbrev pub open_number : Option the_row.Denot → ℕ
open_number None = 0
open_number (Some _) = 1
