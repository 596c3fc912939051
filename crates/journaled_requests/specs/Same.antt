-- Whether a repeat is of the frame that was applied under its number.
use Rattle.std.specs.Prelude.{◌≡◌, ℕ, Bool, List, [], ◌∷◌, ◌++◌, Option, Some, None}
use Rattle.boot_requests.specs.declared.answer.Answer.{Answer}
use Rattle.boot_requests.specs.declared.event.Event.{Event}
use Rattle.boot_requests.specs.declared.event.Event.TheVariants as event
use Rattle.boot_requests.specs.declared.reply.Reply.{Reply}
use Rattle.boot_requests.specs.declared.reply.Reply.TheVariants as reply
use Rattle.boot_notes.specs.declared.digest.FrameDigest.{FrameDigest}
use Rattle.boot_notes.specs.Digest.{IsSame, digest_under}
use Rattle.boot_notes.specs.Notes.{last_of}
use Rattle.journaled_requests.specs.Applied.{SentFrames, with_answer}

-- the digests that are known in a run, if these were kept before it
abbrev pub known_by : List FrameDigest → SentFrames → List FrameDigest
known_by before sent = last_of sent.applied ++ before

-- what is told of a delivery that was answered so, if these digests are known
abbrev pub IsToldOf : List FrameDigest → List ℕ → Option ℕ → Reply → Option Bool → Type 0
IsToldOf known bytes (Some number) (reply.Repeat outcome) same = IsSame (digest_under known number) bytes same
IsToldOf known bytes _ _ same = same ≡ None

-- what is told of an event that was answered so
abbrev pub IsTold : List FrameDigest → Event → Answer → Option Bool → Type 0
IsTold known (event.Deliver bytes) answer same = IsToldOf known bytes answer.request answer.reply same
IsTold known _ answer same = same ≡ None

-- what is told of events that were answered so, one each, in their order
abbrev pub AreTold : List FrameDigest → SentFrames → List Event → List Answer → List (Option Bool) → Type 0
AreTold before sent [] answers told = told ≡ []
AreTold before sent (happened ∷ events) [] told = told ≡ []
AreTold before sent (happened ∷ events) (answer ∷ answers) [] = ⊥
AreTold before sent (happened ∷ events) (answer ∷ answers) (same ∷ told) =
    IsTold (known_by before sent) happened answer same × AreTold before (with_answer sent happened answer) events answers told
