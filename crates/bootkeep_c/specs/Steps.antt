-- Events of a keeper, as C is told of them.
use Rattle.std.specs.Prelude.{◌≡◌, ◌⊎◌, ℕ, List, ◌∷◌, Option, Some, None}
use Rattle.uefi_vars.specs.Vars.{Variables}
use Rattle.uefi_vars.specs.Set.{set_bytes}
use Rattle.boot_requests.specs.declared.event.Event.{Event}
use Rattle.boot_requests.specs.declared.reply.Reply.{Reply}
use Rattle.boot_requests.specs.State.{State, IsImage}
use Rattle.boot_requests.specs.Seen.{Seen, IsSeen}
use Rattle.boot_requests.specs.Reply.{IsReply}
use Rattle.boot_requests.specs.Turn.{Plain, Turn}
use Rattle.boot_requests.specs.Keeper.{StandsFor}
use Rattle.boot_requests.specs.Words.{line_of}
use Rattle.bootkeep_c.specs.Status.{done, no_room, no_memory, closed}
use Rattle.bootkeep_c.specs.Buffer.{IsInFront, IsTooLong, IsKept, GivesUnless}

-- From the one plain state the event leads to the other and is answered so: by the table of turns, and from a run that
-- the first one stands for, as the run has it.
pub record StepsTo (from : Plain) (event : Event) (to : Plain) (answer : Reply) : Type 0 where
  pub turn : (seen : Seen) → IsSeen event seen → Turn from seen to answer
  pub run : (start : State) (run : List Seen) (seen : Seen) → StandsFor from start run → IsSeen event seen →
      StandsFor to start (seen ∷ run) × IsReply start run seen answer

-- An open keeper took the event, and the line of the reply is in the buffer.
pub record TakesEvent (event : Event) (before after : Option Plain) (old new : List ℕ) (len : ℕ) : Type 0 where
  pub from : Plain
  pub to : Plain
  pub answer : Reply
  pub was : before ≡ Some from
  pub is : after ≡ Some to
  pub steps : StepsTo from event to answer
  pub line : IsInFront (line_of answer) old new len

-- There is no room for the line of the reply to the event, which has not happened.
pub record HasNoRoom (event : Event) (before after : Option Plain) (old new : List ℕ) (len : ℕ) : Type 0 where
  pub from : Plain
  pub to : Plain
  pub answer : Reply
  pub was : before ≡ Some from
  pub is : after ≡ before
  pub steps : StepsTo from event to answer
  pub line : IsTooLong (line_of answer) old new len

-- nothing has happened, and the keeper was open or not
pub record StaysOpen (before after : Option Plain) (old new : List ℕ) (old_len len : ℕ) : Type 0 where
  pub from : Plain
  pub was : before ≡ Some from
  pub is : after ≡ before
  pub kept : IsKept old new old_len len

pub record StaysClosed (before after : Option Plain) (old new : List ℕ) (old_len len : ℕ) : Type 0 where
  pub was : before ≡ None
  pub is : after ≡ None
  pub kept : IsKept old new old_len len

-- what comes of an event of a keeper, by the call's status
abbrev pub ComesOf : Event → ℕ → Option Plain → Option Plain → List ℕ → List ℕ → ℕ → ℕ → Type 0
ComesOf event status before after old new old_len len =
    ((status ≡ done) × TakesEvent event before after old new len)
    ⊎ (((status ≡ no_room) × HasNoRoom event before after old new len)
    ⊎ (((status ≡ no_memory) × StaysOpen before after old new old_len len)
    ⊎ ((status ≡ closed) × StaysClosed before after old new old_len len)))

-- what comes of a call that tells the bytes of the variables of a keeper, which stays as it was
pub record TellsSet (status : ℕ) (from : Plain) (old new : List ℕ) (old_len len : ℕ) : Type 0 where
  pub vars : Variables
  pub image : IsImage from.state vars
  pub told : GivesUnless status (set_bytes vars) old new old_len len
