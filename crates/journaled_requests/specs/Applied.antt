-- Which frames were applied, by what was answered: each that was applied as it came, and those that had waited and were
-- applied with it. What waits is forgotten by a restart.
use Rattle.std.specs.Prelude.{ℕ, zero, suc, ◌-◌, nat_le, if◌then◌else◌, List, [], ◌∷◌, ◌++◌, filter, Option, Some, None, is_some}
use Rattle.boot_requests.specs.declared.answer.Answer.{Answer}
use Rattle.boot_requests.specs.declared.event.Event.{Event}
use Rattle.boot_requests.specs.declared.event.Event.TheVariants as event
use Rattle.boot_requests.specs.declared.reply.Reply.{Reply}
use Rattle.boot_requests.specs.declared.reply.Reply.TheVariants as reply
use Rattle.boot_notes.specs.declared.digest.FrameDigest.{FrameDigest}
use Rattle.boot_notes.specs.Digest.{digest_under, frame_digest}

-- the digests of the frames that wait, and of those that were applied, in their order
pub record SentFrames : Type 0 where
  pub waiting : List FrameDigest
  pub applied : List FrameDigest

abbrev pub sent_of : List FrameDigest → List FrameDigest → SentFrames
sent_of waiting applied = record { waiting = waiting; applied = applied }

-- one more waits, unless one of its number does
abbrev pub with_waiting : List FrameDigest → FrameDigest → List FrameDigest
with_waiting waiting frame = if is_some (digest_under waiting frame.number) then waiting else waiting ++ frame ∷ []

-- the digest under a number, if there is one
abbrev pub found_under : ℕ → Option (List ℕ) → List FrameDigest
found_under number None = []
found_under number (Some digest) = record { number = number; digest = digest } ∷ []

-- of those that wait, this many from this number on, in the order of the numbers
abbrev pub followers_of : List FrameDigest → ℕ → ℕ → List FrameDigest
followers_of waiting first zero = []
followers_of waiting first (suc count) = found_under first (digest_under waiting first) ++ followers_of waiting (suc first) count

-- those that still wait if this is the next number
abbrev pub still_waiting : ℕ → List FrameDigest → List FrameDigest
still_waiting next waiting = filter (λ (frame : FrameDigest). nat_le next frame.number) waiting

-- a frame was answered so
abbrev pub with_frame : SentFrames → FrameDigest → Reply → SentFrames
with_frame sent frame (reply.Waiting next) = record sent { waiting = with_waiting sent.waiting frame }
with_frame sent frame (reply.Applied outcome next) = record {
  waiting = still_waiting next sent.waiting;
  applied = sent.applied ++ (frame ∷ followers_of sent.waiting frame.number (next - frame.number));
}
with_frame sent frame _ = sent

-- bytes were delivered, which may be a frame, and answered so
abbrev pub with_delivery : SentFrames → List ℕ → Option ℕ → Reply → SentFrames
with_delivery sent bytes None answer = sent
with_delivery sent bytes (Some number) answer = with_frame sent (frame_digest number bytes) answer

-- an event was answered so
abbrev pub with_answer : SentFrames → Event → Answer → SentFrames
with_answer sent (event.Deliver bytes) answer = with_delivery sent bytes answer.request answer.reply
with_answer sent event.Prepare answer = sent
with_answer sent event.Hand answer = sent
with_answer sent event.Restart answer = record sent { waiting = [] }

-- events were answered so, one each
abbrev pub after_answers : SentFrames → List Event → List Answer → SentFrames
after_answers sent [] answers = sent
after_answers sent (happened ∷ events) [] = sent
after_answers sent (happened ∷ events) (answer ∷ answers) = after_answers (with_answer sent happened answer) events answers

-- the frames that they applied
abbrev pub applied_in : List Event → List Answer → List FrameDigest
applied_in events answers = (after_answers (sent_of [] []) events answers).applied
