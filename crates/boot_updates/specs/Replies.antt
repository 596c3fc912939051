-- When what an event asks for was done.
use Rattle.std.specs.Prelude.{◌≡◌, ℕ, ◌<◌, Bool, List, Option, Some, None}
use Rattle.std.specs.List.{AllByRecursion, fold}
use Rattle.boot_requests.specs.declared.answer.Answer.{Answer}
use Rattle.boot_requests.specs.declared.event.Event.{Event}
use Rattle.boot_requests.specs.declared.event.Event.TheVariants as event
use Rattle.boot_requests.specs.declared.outcome.Code.TheVariants.{Done}
use Rattle.boot_requests.specs.declared.outcome.Outcome.{Outcome}
use Rattle.boot_requests.specs.declared.reply.Reply.{Reply}
use Rattle.boot_requests.specs.declared.reply.Reply.TheVariants as reply
use Rattle.boot_requests.specs.declared.request.Request.{Request}
use Rattle.boot_requests.specs.Frame.{SpellsFrame}
use Rattle.boot_updates.specs.NextNumber.{next_after}
use Rattle.boot_updates.specs.Told.{IsNoOther}

-- the request was carried out
abbrev pub IsCarriedOut : Outcome → Type 0
IsCarriedOut outcome = outcome.code ≡ Done

-- the request of this number, if there is one, is below the next one, and so was applied
abbrev pub IsNumberBelow : Option ℕ → ℕ → Type 0
IsNumberBelow None next = ⊥
IsNumberBelow (Some number) next = number < next

-- What an event with this answer asks for was done, with all that was applied along, if this is the next number after all
-- events. Of a request whose outcome isn't kept that isn't known.
abbrev pub IsDoneBy : ℕ → Option ℕ → Reply → List Outcome → Type 0
IsDoneBy next number (reply.Malformed fault) followers = ⊥
IsDoneBy next number (reply.Repeat outcome) followers = IsCarriedOut outcome
IsDoneBy next number reply.Old followers = ⊥
IsDoneBy next number (reply.Ahead gap) followers = ⊥
IsDoneBy next number reply.Conflict followers = ⊥
IsDoneBy next number (reply.Waiting gap) followers = IsNumberBelow number next
IsDoneBy next number (reply.Applied outcome after) followers = IsCarriedOut outcome × AllByRecursion IsCarriedOut followers
IsDoneBy next number (reply.Prepared count) followers = Unit {0}
IsDoneBy next number reply.AlreadyPrepared followers = Unit {0}
IsDoneBy next number (reply.Plan plan) followers = Unit {0}
IsDoneBy next number reply.NothingPrepared followers = Unit {0}
IsDoneBy next number (reply.Restarted after) followers = Unit {0}

abbrev pub IsDone : ℕ → Answer → Type 0
IsDone next answer = IsDoneBy next answer.request answer.reply answer.followers.items

-- all was done: each answer says so, and no repeat is known to be another request
abbrev pub AreDone : ℕ → List Answer → List (Option Bool) → Type 0
AreDone first answers same = AllByRecursion IsNoOther same × AllByRecursion (IsDone (fold next_after first answers)) answers

-- ---- what a number below the next one is of

-- the event delivers a request of a number below this one
abbrev pub IsBelow : Event → ℕ → Type 0
IsBelow (event.Deliver bytes) next = (number : ℕ) × (request : Request) × SpellsFrame bytes number request × (number < next)
IsBelow event.Prepare next = ⊥
IsBelow event.Hand next = ⊥
IsBelow event.Restart next = ⊥
