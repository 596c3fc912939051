-- What may happen to a machine, one after the other.
use Rattle.std.specs.Prelude.{◌≡◌, ℕ, Bool, true, false, List, [], ◌∷◌, ◌++◌, Option, None, if◌then◌else◌}
use Rattle.std.specs.List.{AllByRecursion}
use Rattle.std.specs.FinMap.{remove}
use Rattle.uefi_vars.specs.Name.{next_text}
use Rattle.uefi_vars.specs.Vars.{Variables}
use Rattle.uefi_vars.specs.NameChanges.{after_each}
use Rattle.uefi_vars.specs.BootChange.{same_name, changes_from}
use Rattle.boot_journal.specs.Changes.{LeaveAlone}
use Rattle.boot_journal.specs.Journal.{PendingParts, BeganUnderAnother}
use Rattle.boot_journal.specs.Store.{Store, seen, journal_to}
use Rattle.boot_journal.specs.Moves.{cut_carrying, cut_settling, cut_undoing, cut_failing, settled}

-- what may happen to a machine
pub data Event : Type 0 where
  -- a settling, cut off after so many moves
  Settles : ℕ → Event
  -- a settling that fails after so many moves, and whose taking back is cut off after so many
  Undoes : ℕ → ℕ → Event
  -- an update that leads to these variables: it settles, and is then cut off after so many moves
  Updates : Variables → ℕ → Event
  -- one that fails after so many moves, and whose taking back is cut off after so many
  Fails : Variables → ℕ → ℕ → Event
  -- the machine is started anew, under this identity, and firmware deletes BootNext or leaves it
  Starts : List ℕ → Bool → Event
  -- firmware changes variables by itself
  Firmware : List (List ℕ × Option (List ℕ)) → Event

-- the identity of the machine's start, and what outlives a cut
pub record World : Type 0 where
  pub boot : List ℕ
  pub store : Store

abbrev pub world : List ℕ → Store → World
world boot s = record { boot = boot; store = s }

abbrev pub without_next : Bool → Variables → Variables
without_next deletes vars = if deletes then remove vars next_text else vars

abbrev pub with_variables : Variables → Store → Store
with_variables vars s = record { variables = vars; journal = s.journal }

-- what an update of a settled store leaves that is cut off after so many moves, and one that fails
abbrev pub updating : List ℕ → Variables → ℕ → Store → Store
updating boot to moves s = cut_carrying boot (journal_to boot s to) moves s

abbrev pub failing : List ℕ → Variables → ℕ → ℕ → Store → Store
failing boot to moves back s = cut_failing boot (journal_to boot s to) moves back s

-- what an event makes of a world, and events one after the other
abbrev pub happens : World → Event → World
happens w (Settles moves) = record { boot = w.boot; store = cut_settling w.boot moves w.store }
happens w (Undoes moves back) = record { boot = w.boot; store = cut_undoing w.boot moves back w.store }
happens w (Updates to moves) = record { boot = w.boot; store = updating w.boot to moves (settled w.boot w.store) }
happens w (Fails to moves back) = record { boot = w.boot; store = failing w.boot to moves back (settled w.boot w.store) }
happens w (Starts boot deletes) =
    record { boot = boot; store = with_variables (without_next deletes w.store.variables) w.store }
happens w (Firmware changes) =
    record { boot = w.boot; store = with_variables (after_each w.store.variables changes) w.store }

abbrev pub all_happen : World → List Event → World
all_happen w [] = w
all_happen w (event ∷ events) = all_happen (happens w event) events

-- the event is an update that leads to these variables, whether it fails or not
abbrev pub IsUpdateTo : Variables → Event → Type 0
IsUpdateTo to (Updates other moves) = other ≡ to
IsUpdateTo to (Fails other moves back) = other ≡ to
IsUpdateTo to _ = ⊥

-- the events are settlings, whether they fail or not
abbrev pub AreSettlings : List Event → Type 0
AreSettlings [] = Unit {0}
AreSettlings (Settles moves ∷ events) = AreSettlings events
AreSettlings (Undoes moves back ∷ events) = AreSettlings events
AreSettlings (_ ∷ events) = ⊥

-- the events are settlings and starts, none of which has this identity
abbrev pub AreSettlingsOrStarts : List ℕ → List Event → Type 0
AreSettlingsOrStarts began [] = Unit {0}
AreSettlingsOrStarts began (Settles moves ∷ events) = AreSettlingsOrStarts began events
AreSettlingsOrStarts began (Undoes moves back ∷ events) = AreSettlingsOrStarts began events
AreSettlingsOrStarts began (Starts boot deletes ∷ events) = (same_name boot began ≡ false) × AreSettlingsOrStarts began events
AreSettlingsOrStarts began (_ ∷ events) = ⊥

-- the changes are of variables other than BootNext
abbrev pub LeaveNext : List (List ℕ × Option (List ℕ)) → Type 0
LeaveNext changes = AllByRecursion (λ change. same_name next_text change.0 ≡ false) changes

-- the events are no updates: settlings, starts under other identities than that under which what is to be done began, and
-- what firmware does to variables other than BootNext
abbrev pub AreNoUpdates : Option PendingParts → List Event → Type 0
AreNoUpdates pending [] = Unit {0}
AreNoUpdates pending (Settles moves ∷ events) = AreNoUpdates pending events
AreNoUpdates pending (Undoes moves back ∷ events) = AreNoUpdates pending events
AreNoUpdates pending (Starts boot deletes ∷ events) = BeganUnderAnother boot pending × AreNoUpdates pending events
AreNoUpdates pending (Firmware changes ∷ events) = LeaveNext changes × AreNoUpdates pending events
AreNoUpdates pending (_ ∷ events) = ⊥

-- ---- firmware's own

-- what firmware does to variables in an event: at a start it may delete BootNext
abbrev pub firmware_in : Event → List (List ℕ × Option (List ℕ))
firmware_in (Settles moves) = []
firmware_in (Undoes moves back) = []
firmware_in (Updates to moves) = []
firmware_in (Fails to moves back) = []
firmware_in (Starts boot true) = (next_text, None) ∷ []
firmware_in (Starts boot false) = []
firmware_in (Firmware changes) = changes

-- what firmware does to them in all events, in order
abbrev pub by_firmware : List Event → List (List ℕ × Option (List ℕ))
by_firmware [] = []
by_firmware (event ∷ events) = firmware_in event ++ by_firmware events

-- the event isn't an update with a change of this name
abbrev pub LeavesAlone : List ℕ → World → Event → Type 0
LeavesAlone name w (Settles moves) = Unit {0}
LeavesAlone name w (Undoes moves back) = Unit {0}
LeavesAlone name w (Updates to moves) = LeaveAlone name (changes_from (seen (settled w.boot w.store)) to)
LeavesAlone name w (Fails to moves back) = LeaveAlone name (changes_from (seen (settled w.boot w.store)) to)
LeavesAlone name w (Starts boot deletes) = Unit {0}
LeavesAlone name w (Firmware changes) = Unit {0}

-- no update among the events has a change of this name
abbrev pub UpdatesLeaveAlone : List ℕ → World → List Event → Type 0
UpdatesLeaveAlone name w [] = Unit {0}
UpdatesLeaveAlone name w (event ∷ events) = LeavesAlone name w event × UpdatesLeaveAlone name (happens w event) events
