-- Notes after commands whose moves C made, and what they tell of frames that came again.
use Rattle.std.specs.Prelude.{◌≡◌, ◌⊎◌, ℕ, Bool, true, false, List, [], length, replicate, Option, Some, None, Ok}
use Rattle.std.specs.List.{slice_get}
use Rattle.boot_requests.specs.declared.answer.Answer.{Answer}
use Rattle.boot_requests.specs.declared.event.Event.{Event}
use Rattle.boot_notes.specs.Notes.{NotesParts, kept_before, after_run}
use Rattle.boot_notes.specs.Bytes.{HasNoNotes, SpellsNotes}
use Rattle.journaled_requests.specs.Applied.{sent_of, applied_in}
use Rattle.journaled_requests.specs.Same.{AreTold}
use Rattle.bootkeep_c.specs.declared.wanted_run.WantedRun.{WantedRun}
use Rattle.bootkeep_c.specs.declared.wanted_run.WantedRun.TheVariants as wanted
use Rattle.bootkeep_c.specs.declared.wanted_run.RunAnswer.TheVariants as answer
use Rattle.bootkeep_c.specs.Ends.{Outcome}

-- frames that a command ran: the number that was to be applied next before them, their deliveries, and the answers to them
pub record RanFrames : Type 0 where
  pub first : ℕ
  pub events : List Event
  pub answers : List Answer

abbrev pub ran_of : ℕ → List Event → List Answer → RanFrames
ran_of first events answers = record { first = first; events = events; answers = answers }

-- those of a command of frames that has happened
abbrev pub ran_by : WantedRun → Option Outcome → Option RanFrames
ran_by (wanted.Frames events) (Some (Ok (answer.Replies replied))) = Some (ran_of replied.first events.items replied.answers.items)
ran_by _ _ = None

-- no frames were run
abbrev pub HasNotRun : Option RanFrames → Type 0
HasNotRun ran = ran ≡ None

-- ---- notes

-- From the notes at the start of these bytes those after the frames are made, with nothing after them; from none, none.
abbrev pub AreNotesOf : List ℕ → RanFrames → List ℕ → Type 0
AreNotesOf bytes ran after =
    (HasNoNotes bytes × (after ≡ []))
    ⊎ ((notes : NotesParts) × (file : List ℕ) × SpellsNotes bytes notes file
    × SpellsNotes after (after_run notes ran.first (applied_in ran.events ran.answers)) [])

abbrev pub AreNotesAfter : List ℕ → Option RanFrames → List ℕ → Type 0
AreNotesAfter bytes None after = ⊥
AreNotesAfter bytes (Some ran) after = AreNotesOf bytes ran after

-- ---- frames that came again

-- what the notes at the start of these bytes tell of each of the frames: nothing if there are none
abbrev pub AreToldOf : List ℕ → RanFrames → List (Option Bool) → Type 0
AreToldOf bytes ran same =
    (HasNoNotes bytes × (same ≡ replicate (length ran.answers) None))
    ⊎ ((notes : NotesParts) × (file : List ℕ) × SpellsNotes bytes notes file
    × AreTold (kept_before notes ran.first) (sent_of [] []) ran.events ran.answers same)

abbrev pub same_number : Option Bool → ℕ
same_number None = 0
same_number (Some true) = 1
same_number (Some false) = 2

-- the number tells what the notes tell of the frame at this place
abbrev pub IsSameAt : List ℕ → Option RanFrames → ℕ → ℕ → Type 0
IsSameAt bytes None place number = ⊥
IsSameAt bytes (Some ran) place number =
    (same : List (Option Bool)) × (told : Option Bool) × AreToldOf bytes ran same × (slice_get same place ≡ Some told)
    × (number ≡ same_number told)

-- no frames were run, or none is at this place
abbrev pub IsNoFrame : List ℕ → Option RanFrames → ℕ → Type 0
IsNoFrame bytes None place = Unit {0}
IsNoFrame bytes (Some ran) place =
    (same : List (Option Bool)) × AreToldOf bytes ran same × (slice_get same place ≡ None)
