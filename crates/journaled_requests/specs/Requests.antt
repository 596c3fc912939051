-- Updates by requests: what a keeper makes of events, and the run of all updates that happened. The variables are those
-- that a machine keeps, and a keeper opens them without their attributes.
use Rattle.std.specs.Prelude.{◌≡◌, ◌⊎◌, ℕ, false, List, [], ◌∷◌, map, Option, None, IsSome}
use Rattle.std.specs.FinMap.{get}
use Rattle.std.specs.List.{AllByRecursion}
use Rattle.uefi_vars.specs.NameChanges.{IsChange}
use Rattle.uefi_vars.specs.BootChange.{same_name, is_boot_name}
use Rattle.boot_requests.specs.declared.answer.Answer.{Answer}
use Rattle.boot_requests.specs.declared.event.Event.{Event}
use Rattle.uefi_vars.specs.Vars.{Variables}
use Rattle.boot_requests.specs.Answering.{replies_of, requests_of}
use Rattle.boot_requests.specs.Followers.{request_of, TellFollowers}
use Rattle.boot_requests.specs.Keeper.{AreRead}
use Rattle.boot_requests.specs.Run.{run_followed_by, state_at}
use Rattle.boot_requests.specs.Reply.{AreAnswers}
use Rattle.boot_requests.specs.Seen.{Seen, Restart, AreSeen}
use Rattle.uefi_vars.specs.Name.{keep_text}
use Rattle.boot_requests.specs.State.{State, IsImage}
use Rattle.boot_requests.specs.StoredState.{OpensAs}
use Rattle.boot_journal.specs.Attributes.{data_of, KeepAttributes}
use Rattle.boot_journal.specs.Turns.{Turn, Brings, Boots, Meddles, after_turns}

-- the variables open as this state, without their attributes
abbrev pub KeepsState : Variables → State → Type 0
KeepsState vars m = OpensAs (data_of vars) m

-- a keeper that opens the one leads to the other by these events
abbrev pub LeadsTo : Variables → List Seen → Variables → Type 0
LeadsTo from seen to = (m : State) → KeepsState from m → IsImage (state_at m (run_followed_by [] seen)) (data_of to)

-- the number of the request that is to be applied next over these variables is this
abbrev pub IsNextOf : Variables → ℕ → Type 0
IsNextOf vars number = (m : State) → KeepsState vars m → number ≡ m.next_number

-- an update by events that were read: what is there afterwards has the attributes of what was there before
pub record IsUpdateBy (from : Variables) (seen : List Seen) (to : Variables) : Type 0 where
  pub read : AreRead (run_followed_by [] seen)
  pub leads : LeadsTo from seen to
  pub attributes : KeepAttributes from to

-- the events are run so, over variables that open as a state without their attributes, with these answers: their
-- replies are those of the run, and they tell their followers and the numbers of the requests that came
abbrev pub IsAnswered : List Event → Variables → Variables → List Answer → Type 0
IsAnswered events from to answers =
    (seen : List Seen) × AreSeen events seen × IsUpdateBy from seen to
    × ((m : State) → KeepsState from m → AreAnswers m [] seen (replies_of answers) × TellFollowers m [] seen answers)
    × ((m : State) × KeepsState from m)
    × (requests_of answers ≡ map request_of seen)

-- a change of a variable that isn't one of the boot manager's, and isn't BootKeepState
pub record IsOfAnother (change : List ℕ × Option (List ℕ)) : Type 0 where
  pub boot : is_boot_name change.0 ≡ false
  pub keep : same_name change.0 keep_text ≡ false
  pub valid : IsChange change

-- The run of the updates among these turns, of which the newest is the first, with a restart between two of them. Firmware
-- did nothing to the boot manager's variables but start the machine and delete BootNext.
abbrev pub IsRunOf : Variables → List Turn → List Seen → Type 0
IsRunOf start [] run = run ≡ []
IsRunOf start (Brings to ∷ before) run =
    (earlier : List Seen) × (seen : List Seen) × IsRunOf start before earlier
    × IsUpdateBy (after_turns start before) seen to × (run ≡ run_followed_by (Restart ∷ earlier) seen)
IsRunOf start (Boots deletes ∷ before) run = IsRunOf start before run
IsRunOf start (Meddles changes ∷ before) run = AllByRecursion IsOfAnother changes × IsRunOf start before run

-- The variable of this name is there after each update and each start among these turns, of which the newest is the
-- first, and firmware changes it in none.
abbrev pub StaysThere : List ℕ → Variables → List Turn → Type 0
StaysThere name start [] = Unit {0}
StaysThere name start (Brings to ∷ before) =
    IsSome (get (after_turns start (Brings to ∷ before)) name) × StaysThere name start before
StaysThere name start (Boots deletes ∷ before) =
    IsSome (get (after_turns start (Boots deletes ∷ before)) name) × StaysThere name start before
StaysThere name start (Meddles changes ∷ before) =
    AllByRecursion (λ change. same_name name change.0 ≡ false) changes × StaysThere name start before

-- the entries, the order, the next number and the outcomes that are kept are the same, and BootNext is, or is gone
pub record AgreesButForNext (m n : State) : Type 0 where
  pub entries : m.entries ≡ n.entries
  pub order : m.order ≡ n.order
  pub next_number : m.next_number ≡ n.next_number
  pub kept : m.kept ≡ n.kept
  pub next : (m.boot_next ≡ None) ⊎ (m.boot_next ≡ n.boot_next)
