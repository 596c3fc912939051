-- Replies of a keeper as values, as C is told of them.
use Rattle.std.specs.Prelude.{◌≡◌, ◌⊎◌, ℕ, List, [], Option, Some}
use Rattle.uefi_vars.specs.Plan.{PlanParts}
use Rattle.boot_requests.specs.declared.event.Event.{Event}
use Rattle.boot_requests.specs.declared.fault.FrameFault.{FrameFault}
use Rattle.boot_requests.specs.declared.fault.FrameFault.TheVariants as frame
use Rattle.boot_requests.specs.declared.outcome.Code.{Code}
use Rattle.boot_requests.specs.declared.outcome.Code.TheVariants as code
use Rattle.boot_requests.specs.declared.outcome.Outcome.{Outcome}
use Rattle.boot_requests.specs.declared.reply.Reply.{Reply}
use Rattle.boot_requests.specs.declared.reply.Reply.TheVariants as reply
use Rattle.boot_requests.specs.Answer.{choice_count}
use Rattle.boot_requests.specs.Turn.{Plain}
use Rattle.bootkeep_c.specs.declared.failure.Failure.{Failure}
use Rattle.bootkeep_c.specs.declared.failure.Failure.TheVariants as failure
use Rattle.bootkeep_c.specs.declared.refusal.Refusal.{Refusal}
use Rattle.bootkeep_c.specs.declared.reply.ReplyNumbers.{ReplyNumbers}
use Rattle.bootkeep_c.specs.Status.{done, no_room, no_memory, closed, bad_size}
use Rattle.bootkeep_c.specs.Refusals.{no_kind, no_place, refusal, option_failure}
use Rattle.bootkeep_c.specs.Buffer.{IsInFront, IsTooLong, IsKept}
use Rattle.bootkeep_c.specs.Plans.{no_entry, number_or_none, next_number, normal_numbers}
use Rattle.bootkeep_c.specs.Steps.{StepsTo, StaysOpen, StaysClosed}

-- what stands for no number of a request
abbrev pub no_request : ℕ
no_request = 0xFFFF_FFFF

-- no fault of an option, and what is told of one
abbrev pub no_refusal : Refusal
no_refusal = refusal no_kind no_kind no_place no_place

abbrev pub told_of : Failure → Refusal
told_of (failure.Refused told) = told
told_of failure.Memory = no_refusal

-- the number of a frame's fault, and what is told of its option
abbrev pub fault_number : FrameFault → ℕ
fault_number (frame.Short found) = 0x0801
fault_number frame.BadMagic = 0x0802
fault_number frame.BadVersion = 0x0803
fault_number frame.TooLong = 0x0804
fault_number (frame.BadSize stated found) = 0x0805
fault_number frame.BadKind = 0x0806
fault_number frame.BadNumber = 0x0807
fault_number frame.BadPayload = 0x0808
fault_number (frame.Option _) = 0x0809
fault_number frame.OutOfMemory = no_kind

abbrev pub fault_of_option : FrameFault → Refusal
fault_of_option (frame.Option why) = told_of (option_failure why)
fault_of_option _ = no_refusal

-- the number of an outcome
abbrev pub code_number : Code → ℕ
code_number code.Done = 1
code_number code.Exists = 2
code_number code.Missing = 3
code_number code.OrderRepeats = 4
code_number code.OrderUnknown = 5
code_number code.NoFree = 6

-- A reply of this kind, of which this is told: the fault of a frame and that of its option, an outcome with its entry, the next
-- number, and of a plan the number of what is tried first and how many options it has.
abbrev pub reply_of : ℕ → ℕ → ℕ → Refusal → ℕ → ℕ → ℕ → ℕ → ℕ → ReplyNumbers
reply_of size kind fault option_fault outcome entry next plan_next count = record {
  size = size;
  kind = kind;
  fault = fault;
  option_fault = option_fault;
  outcome = outcome;
  entry = entry;
  next_number = next;
  plan_next = plan_next;
  count = count;
}

-- one that tells nothing else, one with a next number, and one with an outcome too
abbrev pub bare_reply : ℕ → ℕ → ReplyNumbers
bare_reply size kind = reply_of size kind no_kind no_refusal 0 no_entry no_request no_entry 0

abbrev pub numbered_reply : ℕ → ℕ → ℕ → ReplyNumbers
numbered_reply size kind next = reply_of size kind no_kind no_refusal 0 no_entry next no_entry 0

abbrev pub outcome_reply : ℕ → ℕ → Outcome → ℕ → ReplyNumbers
outcome_reply size kind outcome next =
    reply_of size kind no_kind no_refusal (code_number outcome.code) (number_or_none outcome.entry) next no_entry 0

-- that to bytes that aren't a frame, that of so many prepared options, and that of a plan
abbrev pub fault_reply : ℕ → FrameFault → ReplyNumbers
fault_reply size why = reply_of size 1 (fault_number why) (fault_of_option why) 0 no_entry no_request no_entry 0

abbrev pub count_reply : ℕ → ℕ → ReplyNumbers
count_reply size count = reply_of size 8 no_kind no_refusal 0 no_entry no_request no_entry count

abbrev pub plan_reply : ℕ → PlanParts → ReplyNumbers
plan_reply size plan = reply_of size 10 no_kind no_refusal 0 no_entry no_request (next_number plan) (choice_count plan)

-- the numbers of a reply, in a struct of this size
abbrev pub reply_numbers : ℕ → Reply → ReplyNumbers
reply_numbers size (reply.Malformed why) = fault_reply size why
reply_numbers size (reply.Repeat outcome) = outcome_reply size 2 outcome no_request
reply_numbers size reply.Old = bare_reply size 3
reply_numbers size (reply.Ahead next) = numbered_reply size 4 next
reply_numbers size reply.Conflict = bare_reply size 5
reply_numbers size (reply.Waiting next) = numbered_reply size 6 next
reply_numbers size (reply.Applied outcome next) = outcome_reply size 7 outcome next
reply_numbers size (reply.Prepared count) = count_reply size count
reply_numbers size reply.AlreadyPrepared = bare_reply size 9
reply_numbers size (reply.Plan plan) = plan_reply size plan
reply_numbers size reply.NothingPrepared = bare_reply size 11
reply_numbers size (reply.Restarted next) = numbered_reply size 12 next

-- the numbers of the normal options of the plan that a reply hands out
abbrev pub planned_numbers : Reply → List ℕ
planned_numbers (reply.Plan plan) = normal_numbers plan
planned_numbers _ = []

-- ---- what comes of an event

-- An open keeper took the event, and the reply and its numbers are told.
pub record RepliesTo (event : Event) (before after : Option Plain) (old new : List ℕ) (len : ℕ) (was_told is_told : ReplyNumbers) : Type 0 where
  pub from : Plain
  pub to : Plain
  pub answer : Reply
  pub was : before ≡ Some from
  pub is : after ≡ Some to
  pub steps : StepsTo from event to answer
  pub told : is_told ≡ reply_numbers was_told.size answer
  pub numbers : IsInFront (planned_numbers answer) old new len

-- There is no room for the numbers of the reply to the event, which has not happened.
pub record HasNoRoomToReply (event : Event) (before after : Option Plain) (old new : List ℕ) (len : ℕ) (was_told is_told : ReplyNumbers) : Type 0 where
  pub from : Plain
  pub to : Plain
  pub answer : Reply
  pub was : before ≡ Some from
  pub is : after ≡ before
  pub steps : StepsTo from event to answer
  pub told : is_told ≡ was_told
  pub numbers : IsTooLong (planned_numbers answer) old new len

-- the struct states too small a size, and nothing has happened
pub record StaysAsWas (before after : Option Plain) (old new : List ℕ) (old_len len : ℕ) : Type 0 where
  pub is : after ≡ before
  pub kept : IsKept old new old_len len

-- what comes of an event of a keeper whose reply is told by numbers, by the call's status
abbrev pub RepliesOf : Event → ℕ → Option Plain → Option Plain → List ℕ → List ℕ → ℕ → ℕ → ReplyNumbers → ReplyNumbers → Type 0
RepliesOf event status before after old new old_len len was_told is_told =
    ((status ≡ done) × RepliesTo event before after old new len was_told is_told)
    ⊎ (((status ≡ no_room) × HasNoRoomToReply event before after old new len was_told is_told)
    ⊎ (((status ≡ no_memory) × StaysOpen before after old new old_len len × (is_told ≡ was_told))
    ⊎ (((status ≡ closed) × StaysClosed before after old new old_len len × (is_told ≡ was_told))
    ⊎ ((status ≡ bad_size) × StaysAsWas before after old new old_len len × (is_told ≡ was_told)))))
