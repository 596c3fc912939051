-- What events do to variables, and the lines of what is answered to them.
use Rattle.std.specs.Prelude.{ℕ, List, [], ◌∷◌, ◌++◌}
use Rattle.std.specs.List.{flat_map}
use Rattle.uefi_vars.specs.Vars.{Variables}
use Rattle.boot_requests.specs.declared.event.Event.{Event}
use Rattle.boot_requests.specs.declared.reply.Reply.{Reply}
use Rattle.boot_requests.specs.State.{State}
use Rattle.boot_requests.specs.Seen.{Seen, AreSeen}
use Rattle.boot_requests.specs.Run.{run_followed_by, state_at}
use Rattle.boot_requests.specs.Reply.{AreAnswers}
use Rattle.boot_requests.specs.StoredState.{OpensAs}
use Rattle.boot_requests.specs.Keeper.{IsStateOf}
use Rattle.boot_requests.specs.Words.{line_of}

-- a line for each reply, ended by a line feed
abbrev pub answer_lines : List Reply → List ℕ
answer_lines replies = flat_map (λ reply. line_of reply ++ 10 ∷ []) replies

-- From variables that open as a state, these events lead to other variables, and have these answers, one each: the
-- events are read, the answers are those of the run of what was read, and the variables stand for the state after it.
pub record Happens (before : Variables) (events : List Event) (after : Variables) (answers : List Reply) : Type 0 where
  pub start : State
  pub seen : List Seen
  pub opened : OpensAs before start
  pub read : AreSeen events seen
  pub answered : AreAnswers start [] seen answers
  pub left : IsStateOf (state_at start (run_followed_by [] seen)) after
