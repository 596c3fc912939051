-- A keeper takes events, and each is answered.
use Rattle.std.specs.Prelude.{◌≡◌, ℕ, List, map, Option}
use Rattle.boot_requests.specs.declared.answer.Answer.{Answer}
use Rattle.boot_requests.specs.declared.event.Event.{Event}
use Rattle.boot_requests.specs.declared.reply.Reply.{Reply}
use Rattle.boot_requests.specs.Followers.{request_of, AreFollowers, TellFollowers}
use Rattle.boot_requests.specs.Keeper.{StandsFor}
use Rattle.boot_requests.specs.Reply.{AreAnswers}
use Rattle.boot_requests.specs.Run.{run_followed_by}
use Rattle.boot_requests.specs.Seen.{Seen, IsSeen, AreSeen}
use Rattle.boot_requests.specs.State.{State}
use Rattle.boot_requests.specs.Turn.{Plain, Turn}

-- the replies of answers, and the numbers of their requests
abbrev pub replies_of : List Answer → List Reply
replies_of answers = map (λ answer. answer.reply) answers

abbrev pub requests_of : List Answer → List (Option ℕ)
requests_of answers = map (λ answer. answer.request) answers

-- after a run the events, which are read as these, lead to the plain state, with these replies
pub record LeadTo (start : State) (run : List Seen) (events : List Event) (to : Plain) (replies : List Reply) : Type 0 where
  pub seen : List Seen
  pub read : AreSeen events seen
  pub stands : StandsFor to start (run_followed_by run seen)
  pub replied : AreAnswers start run seen replies

-- whatever run the one plain state stands for, the events lead from it to the other, with these replies, one each
abbrev pub AreReplied : Plain → List Event → Plain → List Reply → Type 0
AreReplied from events to replies = (start : State) (run : List Seen) → StandsFor from start run → LeadTo start run events to replies

-- the same with answers: they tell the numbers of the requests that came, and their followers
pub record LeadToAnswers (start : State) (run : List Seen) (events : List Event) (to : Plain) (answers : List Answer) : Type 0 where
  pub lead : LeadTo start run events to (replies_of answers)
  pub requests : requests_of answers ≡ map request_of lead.seen
  pub followers : TellFollowers start run lead.seen answers

abbrev pub AreAnswered : Plain → List Event → Plain → List Answer → Type 0
AreAnswered from events to answers = (start : State) (run : List Seen) → StandsFor from start run → LeadToAnswers start run events to answers

-- for private functions: whatever the event is read as, it leads from the one plain state to the other, with this answer
pub record IsAnswered (from : Plain) (event : Event) (to : Plain) (answer : Answer) : Type 0 where
  pub turn : (seen : Seen) → IsSeen event seen → Turn from seen to answer.reply
  pub request : (seen : Seen) → IsSeen event seen → answer.request ≡ request_of seen
  pub followers : AreFollowers from.state.next_number to.state answer.reply answer.followers.items
