-- What journals stand for.
use Rattle.std.specs.Prelude.{◌≡◌, ℕ, List, Option, IfSome, Vec}
use Rattle.std.specs.Global.{Global}
use Rattle.std.specs.List.{AllByRecursion}
use Rattle.std.specs.Option.{option_map}
use Rattle.uefi_vars.specs.Name.{IsName}
use Rattle.uefi_vars.specs.Vars.{IsData}
use Rattle.uefi_vars.specs.BootChange.{ChangeParts}
use Rattle.boot_journal.specs.declared.journal.Course.{Course}
use Rattle.boot_journal.specs.declared.journal.Course.TheVariants.{Making, TakingBack}
use Rattle.boot_journal.specs.declared.journal.Pending.{Pending}
use Rattle.boot_journal.specs.Journal.{JournalParts, PendingParts, Makes, TakesBack}
use Rattle.boot_journal.specs.Changes.{taken_back}
use Rattle.boot_journal.specs.Values.{bytes_of, IsBootChange}

abbrev pub pending_by : Course → List ChangeParts → List ℕ → PendingParts
pending_by (Making former) changes boot = Makes (bytes_of former) changes boot
pending_by TakingBack changes boot = TakesBack changes boot

abbrev pub pending_of : Pending → PendingParts
pending_of pending = pending_by pending.course pending.changes.items pending.boot

abbrev pub journal_of : Option (Vec ℕ Global) → Option Pending → JournalParts
journal_of state pending = record { state = bytes_of state; pending = option_map pending_of pending }

abbrev pub IsPending : PendingParts → Type 0
IsPending (Makes former changes boot) = IsName boot × IfSome former IsData × AllByRecursion IsBootChange changes
IsPending (TakesBack changes boot) = IsName boot × AllByRecursion IsBootChange changes

-- BootKeepState can be a variable, and what is to be done are changes of the boot manager's variables
pub record IsJournal (journal : JournalParts) : Type 0 where
  pub state : IfSome journal.state IsData
  pub pending : IfSome journal.pending IsPending

-- ---- for private functions: the parts of a journal's turn

abbrev pub state_turned : Option (List ℕ) → PendingParts → Option (List ℕ)
state_turned state (Makes former changes boot) = former
state_turned state (TakesBack changes boot) = state

abbrev pub pending_turned : PendingParts → PendingParts
pending_turned (Makes former changes boot) = TakesBack changes boot
pending_turned (TakesBack changes boot) = TakesBack changes boot

abbrev pub in_order : PendingParts → List ChangeParts
in_order (Makes former changes boot) = changes
in_order (TakesBack changes boot) = taken_back changes

-- the two courses have the same bytes
abbrev pub IsAlike : Course → Course → Type 0
IsAlike (Making one) (Making other) = bytes_of one ≡ bytes_of other
IsAlike TakingBack TakingBack = Unit {0}
IsAlike _ _ = ⊥
