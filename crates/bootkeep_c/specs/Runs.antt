-- Streams of frames, run over variables.
use Rattle.std.specs.Prelude.{◌≡◌, ◌⊎◌, ℕ, ◌<◌, List, length}
use Rattle.uefi_vars.specs.Vars.{Variables}
use Rattle.uefi_vars.specs.Set.{SpellsSet, set_bytes}
use Rattle.boot_requests.specs.declared.event.Event.{Event}
use Rattle.boot_requests.specs.declared.reply.Reply.{Reply}
use Rattle.boot_requests.specs.declared.script_fault.ScriptFault.{ScriptFault}
use Rattle.boot_requests.specs.EventStream.{IsStream, IsStreamFault}
use Rattle.boot_requests.specs.Happens.{Happens, answer_lines}
use Rattle.bootkeep_c.specs.declared.failure.Failure.{Failure}
use Rattle.bootkeep_c.specs.Status.{done, no_room}
use Rattle.bootkeep_c.specs.Refusals.{stream_failure}
use Rattle.bootkeep_c.specs.Buffer.{IsInFront}

-- the bytes aren't a stream, for this
abbrev pub IsStreamFailure : List ℕ → Failure → Type 0
IsStreamFailure stream failed = (fault : ScriptFault) × IsStreamFault stream fault × (failed ≡ stream_failure fault)

-- From the variables of a set, the frames of the stream lead to those of another, and have these lines of replies.
pub record RanOver (set stream after lines : List ℕ) : Type 0 where
  pub vars : Variables
  pub events : List Event
  pub left : Variables
  pub replies : List Reply
  pub spelled : SpellsSet set vars
  pub read : IsStream stream events
  pub happens : Happens vars events left replies
  pub written : after ≡ set_bytes left
  pub lines_are : lines ≡ answer_lines replies

-- ---- two buffers

-- What a call tells of two answers: both are given, or one of the two buffers is too short and both are as they were.
-- The lengths are those of the answers in either case.
pub record GivesBoth (status : ℕ) (first second : List ℕ) (old_first new_first old_second new_second : List ℕ) (first_len second_len : ℕ) : Type 0 where
  pub first_told : first_len ≡ length first
  pub second_told : second_len ≡ length second
  pub given : ((status ≡ done) × IsInFront first old_first new_first first_len × IsInFront second old_second new_second second_len)
      ⊎ ((status ≡ no_room) × ((length old_first < length first) ⊎ (length old_second < length second))
      × (new_first ≡ old_first) × (new_second ≡ old_second))
