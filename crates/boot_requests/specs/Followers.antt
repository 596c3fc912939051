-- What an answer tells beside its reply: the number of the request that came, and what became of the requests that had
-- waited and were applied right after the event's own.
use Rattle.std.specs.Prelude.{◌≡◌, ℕ, ◌+◌, ◌<◌, List, [], ◌∷◌, length, map, Bool, true, false, Option, Some, None, IsSome}
use Rattle.boot_requests.specs.declared.answer.Answer.{Answer}
use Rattle.boot_requests.specs.declared.outcome.Outcome.{Outcome}
use Rattle.boot_requests.specs.declared.reply.Reply.{Reply}
use Rattle.boot_requests.specs.declared.reply.Reply.TheVariants as reply
use Rattle.boot_requests.specs.Answer.{kept_outcome}
use Rattle.boot_requests.specs.Changes.{numbers_from}
use Rattle.boot_requests.specs.Run.{state_at}
use Rattle.boot_requests.specs.Seen.{Seen, Came, Malformed, Prepare, Hand, Restart}
use Rattle.boot_requests.specs.State.{State}

-- the number of the request that came, if one did
abbrev pub request_of : Seen → Option ℕ
request_of (Came number request) = Some number
request_of (Malformed fault) = None
request_of Prepare = None
request_of Hand = None
request_of Restart = None

-- the outcomes are those that the state keeps of the numbers from the first one on to the one below the next
pub record AreOutcomes (m : State) (first next : ℕ) (outcomes : List Outcome) : Type 0 where
  pub len : first + length outcomes ≡ next
  pub kept : map (kept_outcome m) (numbers_from first (length outcomes)) ≡ map Some outcomes

-- These follow a reply, if this was the next number before the event and the state is the one after it: what is kept of
-- the numbers above the event's own and below the next one, if its request was applied, and nothing otherwise.
abbrev pub AreFollowers : ℕ → State → Reply → List Outcome → Type 0
AreFollowers number after (reply.Applied outcome next) followers = AreOutcomes after (number + 1) next followers
AreFollowers number after _ followers = followers ≡ []

-- the answers to these after a run, one each, in order, tell their followers
abbrev pub TellFollowers : State → List Seen → List Seen → List Answer → Type 0
TellFollowers start run [] answers = answers ≡ []
TellFollowers start run (seen ∷ later) [] = ⊥
TellFollowers start run (seen ∷ later) (answer ∷ answers) =
    AreFollowers (state_at start run).next_number (state_at start (seen ∷ run)) answer.reply answer.followers.items
    × TellFollowers start (seen ∷ run) later answers

-- for private functions: whether what was delivered isn't a frame
abbrev pub is_malformed : Reply → Bool
is_malformed (reply.Malformed fault) = true
is_malformed _ = false

-- for private functions: the outcome of each number above this one and below the next one is kept, if the reply tells
-- that one
abbrev pub AreThere : ℕ → State → Reply → Type 0
AreThere number m (reply.Applied outcome next) =
    (number < next) × ((n : ℕ) → number < n → n < next → IsSome (kept_outcome m n))
AreThere number m _ = Unit {0}
