-- Updates by requests, whatever firmware did between them.
use Rattle.std.specs.Prelude.{◌≡◌, ◌-◌, List, [], ◌∷◌, ◌++◌}
use Rattle.uefi_vars.specs.Vars.{Variables}
use Rattle.boot_requests.specs.Changes.{Change, numbers_in, numbers_from}
use Rattle.boot_requests.specs.Marks.{mark_in}
use Rattle.boot_requests.specs.Run.{run_followed_by, gap_at, history, state_at}
use Rattle.boot_requests.specs.Seen.{Seen, Restart}
use Rattle.boot_requests.specs.State.{State, MarkParts}
use Rattle.journaled_requests.specs.Requests.{KeepsState, IsUpdateBy}
use Rattle.boot_journal.specs.Turns.{Turn, Brings, Boots, Meddles, after_turns}

-- an update: as which state the variables opened without their attributes, and what happened then
pub record Update : Type 0 where
  pub before : State
  pub seen : List Seen

-- the state after it
abbrev pub state_after : Update → State
state_after update = state_at update.before (run_followed_by [] update.seen)

-- it led from the one set to the other, by events that were read
pub record IsUpdateFrom (from : Variables) (update : Update) (to : Variables) : Type 0 where
  pub opens : KeepsState from update.before
  pub by : IsUpdateBy from update.seen to

-- These are the updates among the turns, of both of which the newest is the first. Between two of them firmware changed
-- whatever it liked.
abbrev pub AreUpdatesIn : Variables → List Turn → List Update → Type 0
AreUpdatesIn start [] updates = updates ≡ []
AreUpdatesIn start (Brings to ∷ before) [] = ⊥
AreUpdatesIn start (Brings to ∷ before) (update ∷ earlier) =
    IsUpdateFrom (after_turns start before) update to × AreUpdatesIn start before earlier
AreUpdatesIn start (Boots deletes ∷ before) updates = AreUpdatesIn start before updates
AreUpdatesIn start (Meddles changes ∷ before) updates = AreUpdatesIn start before updates

-- Each update began with the next number and the outcomes that the one before it left, the first one with the ones given
-- first, and those given last are what the last one left.
abbrev pub GoOn : MarkParts → List Update → MarkParts → Type 0
GoOn first [] last = last ≡ first
GoOn first (update ∷ before) last = GoOn first before (mark_in update.before) × (last ≡ mark_in (state_after update))

-- what all of them did to their states, one change after the other
abbrev pub changes_by : List Update → List Change
changes_by [] = []
changes_by (update ∷ before) = changes_by before ++ history update.before.next_number (run_followed_by [] update.seen)

-- their run, with a restart between two of them
abbrev pub run_of : List Update → List Seen
run_of [] = []
run_of (update ∷ before) = run_followed_by (Restart ∷ run_of before) update.seen

-- What all of them did is what their run as a whole does, from the one mark to the other: each number from the first one to
-- below the last next one is applied once, in order.
pub record AreAppliedOnce (first last : MarkParts) (updates : List Update) : Type 0 where
  pub on : GoOn first updates last
  pub gap : last.next_number ≡ gap_at first.next_number (run_of updates)
  pub changes : changes_by updates ≡ history first.next_number (run_of updates)
  pub numbers : numbers_in (changes_by updates) ≡ numbers_from first.next_number (last.next_number - first.next_number)
