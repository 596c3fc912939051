-- What is answered to a request, and when a plan is to be prepared or handed out, whatever happened before.
use Rattle.std.specs.Prelude.{◌≡◌, ◌≢◌, ◌⊎◌, ℕ, ◌+◌, ◌-◌, ◌==◌, nat_lt, nat_le, if◌then◌else◌, length, slice_get, Option, Some, None, MatchBool, MatchOption}
use Rattle.std.specs.FinMap.{get}
use Rattle.uefi_vars.specs.declared.boot_plan.Choice.{Choice}
use Rattle.uefi_vars.specs.Plan.{PlanParts}
use Rattle.boot_requests.specs.declared.request.Request.{Request}
use Rattle.boot_requests.specs.declared.outcome.Outcome.{Outcome}
use Rattle.boot_requests.specs.declared.reply.Reply.{Reply}
use Rattle.boot_requests.specs.declared.reply.Reply.TheVariants as reply
use Rattle.boot_requests.specs.Limits.{width}
use Rattle.boot_requests.specs.State.{State}
use Rattle.boot_requests.specs.Apply.{outcome_of}
use Rattle.boot_requests.specs.Window.{Requests}

-- the outcome of the request of this number, if it is kept: they are those of the numbers right below the next one
abbrev pub kept_outcome : State → ℕ → Option Outcome
kept_outcome m number =
    let oldest = m.next_number - length m.kept in
    if nat_lt number oldest then None else slice_get m.kept (number - oldest)

-- the answer to a request that was applied before
abbrev pub again : Option Outcome → Reply
again None = reply.Old
again (Some outcome) = reply.Repeat outcome

-- The answer to a request with its number, by the first of these that holds: it was applied before; it is too far
-- ahead; another request of its number is accepted; it waits; it is applied, after which the next number is the last
-- one given.
abbrev pub IsReplyTo : State → Requests → ℕ → ℕ → ℕ → Request → Reply → Type 0
IsReplyTo m requests gap after number request answer =
    MatchBool (nat_lt number gap) (answer ≡ again (kept_outcome m number))
    (MatchBool (nat_le width (number - gap)) (answer ≡ reply.Ahead gap)
    (MatchOption (get requests number)
    (answer ≡ (if number == gap then reply.Applied (outcome_of m request) after else reply.Waiting gap))
    (λ other. ((other ≢ request) × (answer ≡ reply.Conflict)) ⊎ ((other ≡ request) × (answer ≡ reply.Waiting gap)))))

abbrev pub next_count : Option Choice → ℕ
next_count None = 0
next_count (Some choice) = 1

-- how many options a plan has, BootNext's included
abbrev pub choice_count : PlanParts → ℕ
choice_count plan = next_count plan.next + length plan.normal

-- the answer when a plan is to be handed out
abbrev pub reply_to_hand : Option PlanParts → Reply
reply_to_hand None = reply.NothingPrepared
reply_to_hand (Some plan) = reply.Plan plan
