-- Calls of `command` and `settle`, one after the other. In each list the newest is the first.
use Rattle.std.specs.Prelude.{◌≡◌, ◌⊎◌, ℕ, Bool, true, false, List, [], ◌∷◌, ◌++◌, Option, None, Vec}
use Rattle.std.specs.Global.{Global}
use Rattle.uefi_vars.specs.Name.{next_text}
use Rattle.uefi_vars.specs.Vars.{Variables}
use Rattle.uefi_vars.specs.BootChange.{changes_from}
use Rattle.boot_requests.specs.declared.answer.Answer.{Answer}
use Rattle.boot_requests.specs.declared.event.Event.{Event}
use Rattle.boot_requests.specs.Seen.{AreSeen}
use Rattle.boot_journal.specs.Changes.{LeaveAlone}
use Rattle.boot_journal.specs.Commands.{IsCommanding}
use Rattle.boot_journal.specs.Events.{World, happens}
use Rattle.boot_journal.specs.Events as event
use Rattle.boot_journal.specs.Moves.{IsSettling}
use Rattle.journaled_requests.specs.Once.{Update}
use Rattle.journaled_requests.specs.Requests.{KeepsState, IsAnswered}
use Rattle.boot_journal.specs.Store.{IsIdle, stands_for, brought}
use Rattle.boot_journal.specs.Turns.{is_known}

-- how a command ends
pub data Ending : Type 0 where
  -- it is done
  Done : Ending
  -- it says that the machine stands for what it did
  Unchanged : Ending
  -- it says that the settling failed, after which nothing is run
  NotRun : Ending
  -- it says something else, or is cut off
  Open : Ending

-- what a caller or firmware does
pub data Call : Type 0 where
  -- a command that runs these events
  Runs : List Event → Ending → Call
  -- a settling, however it ends
  Settling : Call
  -- no call: the machine is started anew, under this identity, and firmware deletes BootNext or leaves it
  Starts : List ℕ → Bool → Call
  -- no call: firmware changes variables by itself
  Firmware : List (List ℕ × Option (List ℕ)) → Call

-- a run of these events leads from the one set to the other
abbrev pub RunsTo : List Event → Variables → Variables → Type 0
RunsTo events from to = (answers : Vec Answer Global) × IsAnswered events from to answers.items

-- from the one world to the other, by what the contracts of the two say
abbrev pub CallLeads : World → Call → World → Type 0
CallLeads w (Runs events Done) v =
    (v.boot ≡ w.boot) × IsIdle v.store
    × (to : Variables) × RunsTo events (stands_for w.boot w.store) to
    × (stands_for v.boot v.store ≡ brought (stands_for w.boot w.store) to)
CallLeads w (Runs events Unchanged) v =
    (v.boot ≡ w.boot) × IsCommanding (RunsTo events) w.boot w.store v.store
    × (stands_for v.boot v.store ≡ stands_for w.boot w.store)
CallLeads w (Runs events NotRun) v = (v.boot ≡ w.boot) × IsSettling w.boot w.store v.store
CallLeads w (Runs events Open) v = (v.boot ≡ w.boot) × IsCommanding (RunsTo events) w.boot w.store v.store
CallLeads w Settling v = (v.boot ≡ w.boot) × IsSettling w.boot w.store v.store
CallLeads w (Starts boot deletes) v = v ≡ happens w (event.Starts boot deletes)
CallLeads w (Firmware changes) v = v ≡ happens w (event.Firmware changes)

-- a call, and the world after it
pub record Step : Type 0 where
  pub call : Call
  pub after : World

-- the world after these, from this one on
abbrev pub world_after : World → List Step → World
world_after w [] = w
world_after w (step ∷ before) = step.after

-- calls one after the other, the newest first, each leading to the world after it
abbrev pub AreSteps : World → List Step → Type 0
AreSteps w [] = Unit {0}
AreSteps w (step ∷ before) = CallLeads (world_after w before) step.call step.after × AreSteps w before

-- ---- starts

-- the identities with that of a start
abbrev pub known_with : Call → List (List ℕ) → List (List ℕ)
known_with (Starts boot deletes) known = boot ∷ known
known_with (Runs events ending) known = known
known_with Settling known = known
known_with (Firmware changes) known = known

-- the identities of the machine's starts, this one at first
abbrev pub identities : List ℕ → List Step → List (List ℕ)
identities boot [] = boot ∷ []
identities boot (step ∷ before) = known_with step.call (identities boot before)

-- a start has an identity that isn't known
abbrev pub IsNewStart : List (List ℕ) → Call → Type 0
IsNewStart known (Starts boot deletes) = is_known known boot ≡ false
IsNewStart known (Runs events ending) = Unit {0}
IsNewStart known Settling = Unit {0}
IsNewStart known (Firmware changes) = Unit {0}

-- each start has an identity that none before it had
abbrev pub HaveNewStarts : List ℕ → List Step → Type 0
HaveNewStarts boot [] = Unit {0}
HaveNewStarts boot (step ∷ before) = IsNewStart (identities boot before) step.call × HaveNewStarts boot before

-- ---- what firmware did

abbrev pub IfFirmware : (List (List ℕ × Option (List ℕ)) → Type 0) → Call → Type 0
IfFirmware AreSo (Firmware changes) = AreSo changes
IfFirmware AreSo (Runs events ending) = Unit {0}
IfFirmware AreSo Settling = Unit {0}
IfFirmware AreSo (Starts boot deletes) = Unit {0}

-- what firmware changed by itself is so
abbrev pub FirmwareDid : (List (List ℕ × Option (List ℕ)) → Type 0) → List Step → Type 0
FirmwareDid AreSo [] = Unit {0}
FirmwareDid AreSo (step ∷ before) = IfFirmware AreSo step.call × FirmwareDid AreSo before

-- what firmware did to variables, with what it did in a call: at a start it may delete BootNext
abbrev pub did_with : Call → List (List ℕ × Option (List ℕ)) → List (List ℕ × Option (List ℕ))
did_with (Runs events ending) did = did
did_with Settling did = did
did_with (Starts boot true) did = did ++ (next_text, None) ∷ []
did_with (Starts boot false) did = did
did_with (Firmware changes) did = did ++ changes

-- what firmware did to them in all, in order
abbrev pub did_by_firmware : List Step → List (List ℕ × Option (List ℕ))
did_by_firmware [] = []
did_by_firmware (step ∷ before) = did_with step.call (did_by_firmware before)

-- no run of the events, from what the machine stands for, has a change of this name
abbrev pub CallLeavesAlone : List ℕ → World → Call → Type 0
CallLeavesAlone name w (Runs events ending) =
    (to : Variables) → RunsTo events (stands_for w.boot w.store) to → LeaveAlone name (changes_from (stands_for w.boot w.store) to)
CallLeavesAlone name w Settling = Unit {0}
CallLeavesAlone name w (Starts boot deletes) = Unit {0}
CallLeavesAlone name w (Firmware changes) = Unit {0}

-- no run of a command among these calls has
abbrev pub CallsLeaveAlone : List ℕ → World → List Step → Type 0
CallsLeaveAlone name w [] = Unit {0}
CallsLeaveAlone name w (step ∷ before) = CallLeavesAlone name (world_after w before) step.call × CallsLeaveAlone name w before

-- ---- which updates happened

-- the newest of the updates is by these events, of what the machine stood for in this world, and the others are so
abbrev pub NewestIsBy : World → List Event → (List Update → Type 0) → List Update → Type 0
NewestIsBy w events AreBefore [] = ⊥
NewestIsBy w events AreBefore (update ∷ earlier) =
    KeepsState (stands_for w.boot w.store) update.before × AreSeen events update.seen × AreBefore earlier

-- with those before it: a command that is done made an update, one that says that nothing changed or that nothing was run
-- didn't, and each other may have
abbrev pub AreWith : World → Call → (List Update → Type 0) → List Update → Type 0
AreWith w (Runs events Done) AreBefore updates = NewestIsBy w events AreBefore updates
AreWith w (Runs events Unchanged) AreBefore updates = AreBefore updates
AreWith w (Runs events NotRun) AreBefore updates = AreBefore updates
AreWith w (Runs events Open) AreBefore updates = AreBefore updates ⊎ NewestIsBy w events AreBefore updates
AreWith w Settling AreBefore updates = AreBefore updates
AreWith w (Starts boot deletes) AreBefore updates = AreBefore updates
AreWith w (Firmware changes) AreBefore updates = AreBefore updates

-- these are the updates by the calls, in order and each by a call of its own
abbrev pub AreByCalls : World → List Step → List Update → Type 0
AreByCalls w [] updates = updates ≡ []
AreByCalls w (step ∷ before) updates = AreWith (world_after w before) step.call (AreByCalls w before) updates
