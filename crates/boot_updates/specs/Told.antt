-- What is told of the events of a run by what was kept beside the journal before it.
use Rattle.std.specs.Prelude.{◌≡◌, ◌≢◌, ℕ, Bool, false, List, [], length, replicate, Option, Some, None}
use Rattle.boot_requests.specs.declared.answer.Answer.{Answer}
use Rattle.boot_requests.specs.declared.event.Event.{Event}
use Rattle.journaled_requests.specs.Applied.{sent_of}
use Rattle.boot_notes.specs.Notes.{NotesParts, kept_before}
use Rattle.journaled_requests.specs.Same.{AreTold}

-- of each event of a run that began with this next number, whether it is a repeat of the frame that was applied under its
-- number: nothing if no notes were kept
abbrev pub AreToldBy : Option NotesParts → ℕ → List Event → List Answer → List (Option Bool) → Type 0
AreToldBy None next events answers same = same ≡ replicate (length answers) None
AreToldBy (Some notes) next events answers same = AreTold (kept_before notes next) (sent_of [] []) events answers same

-- what is told doesn't say that it is another request
abbrev pub IsNoOther : Option Bool → Type 0
IsNoOther told = told ≢ Some false
