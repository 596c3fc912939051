-- What C's handle of a command over a machine owns: the session in a box, if it is open.
use Rattle.std.specs.Prelude.{ℕ, Option, Some, None}
use base.Fml.{Fml, ftrue}
use base.Stored.{Coded}
use denote.RawPtr.{Ptr}
use Rattle.std.specs.Box.Ownership.{box_owns}
use Rattle.std.specs.Global.{Global}
use Rattle.std.specs.Coded.{coded_option}
use Rattle.std_heap.specs.contracts.GlobalAllocator.TheImpl.{ghosts}
use Rattle.bootkeep_c.specs.contracts.session.Session.{the_row}

-- nothing, or the box at the pointer with the session of this value in it
abbrev pub session_seal_owns : Global → Ptr → Option the_row.Denot → Fml
session_seal_owns alloc at None = ftrue
session_seal_owns alloc at (Some session) = box_owns (ghosts.dealloc_token alloc) the_row at session

abbrev pub session_coded : Coded (Option the_row.Denot)
session_coded = coded_option the_row.coded

-- the number by which C is told whether a command is open
abbrev pub session_number : Option the_row.Denot → ℕ
session_number None = 0
session_number (Some _) = 1
