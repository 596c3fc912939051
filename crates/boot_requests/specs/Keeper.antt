-- Which run a plain state stands for, and with which variables it starts.
use Rattle.std.specs.Prelude.{◌≡◌, ◌≢◌, ℕ, ◌+◌, ◌<◌, nat_lt, true, List, [], ◌∷◌, Option, Some, None, IfSome}
use Rattle.std.specs.FinMap.{get, retain_keys}
use Rattle.uefi_option.specs.LoadOption.{OptionParts, SpellsOption}
use Rattle.uefi_vars.specs.Vars.{Variables}
use Rattle.boot_requests.specs.declared.request.Request.{Request}
use Rattle.boot_requests.specs.Limits.{width}
use Rattle.boot_requests.specs.Frame.{IsSent}
use Rattle.boot_requests.specs.State.{State, IsState, IsImage}
use Rattle.boot_requests.specs.Apply.{is_there, outcome_of, Stored, stored_by}
use Rattle.boot_requests.specs.Seen.{Seen, Came, Malformed, Prepare, Hand, Restart}
use Rattle.boot_requests.specs.Window.{Requests}
use Rattle.boot_requests.specs.Run.{accepted_requests, gap_at, state_at, IsPending}
use Rattle.boot_requests.specs.Turn.{Plain}

-- After the run, from the state at its start: its state, the accepted requests above the gap, and the plan that is
-- prepared.
pub record StandsFor (k : Plain) (start : State) (run : List Seen) : Type 0 where
  pub state : k.state ≡ state_at start run
  pub waiting : let first = start.next_number in k.waiting ≡ retain_keys (accepted_requests first run) (λ number. nat_lt (gap_at first run) number)
  pub plan : IsPending start run k.plan

-- the state whose image the variables are
pub record IsStateOf (m : State) (vars : Variables) : Type 0 where
  pub is : IsState m
  pub image : IsImage m vars

-- what waits has numbers above the next one and less than `width` from it, and was read off frames
abbrev pub AreWaiting : ℕ → Requests → Type 0
AreWaiting next_number requests = (number : ℕ) →
    IfSome (get requests number) (λ request. (next_number < number) × (number < next_number + width) × IsSent number request)

-- a keeper can be in this plain state
pub record IsPlain (k : Plain) : Type 0 where
  pub state : IsState k.state
  pub waiting : AreWaiting k.state.next_number k.waiting

-- what came was read off frames
abbrev pub AreRead : List Seen → Type 0
AreRead [] = Unit {0}
AreRead (Came number request ∷ before) = IsSent number request × AreRead before
AreRead (Malformed fault ∷ before) = AreRead before
AreRead (Prepare ∷ before) = AreRead before
AreRead (Hand ∷ before) = AreRead before
AreRead (Restart ∷ before) = AreRead before

-- what is under an entry's number is a spelling of the option, or nothing if there is none
abbrev pub IsStored : Option OptionParts → Option (List ℕ) → Type 0
IsStored None now = now ≡ None
IsStored (Some option) now = (bytes : List ℕ) × (now ≡ Some bytes) × SpellsOption bytes option

-- What is under an entry's number is what was stored of it last, or what was there before if no request stored or
-- removed it.
abbrev pub IsLeft : Option (List ℕ) → Option Stored → Option (List ℕ) → Type 0
IsLeft before None now = now ≡ before
IsLeft before (Some stored) now = IsStored stored.option now

-- in no state in which the entry is there, the request stores or removes it
abbrev pub LeavesAlone : Request → ℕ → Type 0
LeavesAlone request entry = (m : State) → is_there m entry ≡ true →
    IfSome (stored_by request (outcome_of m request)) (λ stored. stored.entry ≢ entry)

-- of these requests each with a number between the two leaves the entry alone
abbrev pub IsUntouched : Requests → ℕ → ℕ → ℕ → Type 0
IsUntouched requests from to entry = (number : ℕ) → from < number → number < to →
    IfSome (get requests number) (λ request. LeavesAlone request entry)
