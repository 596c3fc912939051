-- Whole runs: lists of what happened, the newest first. Nothing here knows how it is kept.
use Rattle.std.specs.Prelude.{◌≡◌, ◌≢◌, ◌⊎◌, ℕ, ◌+◌, ◌<◌, ◌==◌, ◌&&◌, nat_lt, Bool, true, false, if◌then◌else◌, List, [], ◌∷◌, ◌++◌, Option, Some, None}
use Rattle.std.specs.List.{AllByRecursion}
use Rattle.std.specs.FinMap.{empty, insert, retain_keys}
use Rattle.uefi_vars.specs.Plan.{PlanParts}
use Rattle.boot_requests.specs.declared.request.Request.{Request}
use Rattle.boot_requests.specs.declared.request.Request.TheVariants.{Add, Replace, Remove, Order, Next, AddFree, AddFirst, First}
use Rattle.boot_requests.specs.declared.outcome.Code.{Code}
use Rattle.boot_requests.specs.declared.outcome.Code.TheVariants.{Done, Exists, Missing, OrderRepeats, OrderUnknown, NoFree}
use Rattle.boot_requests.specs.Limits.{width}
use Rattle.boot_requests.specs.State.{State}
use Rattle.boot_requests.specs.Apply.{outcome_of, after_request, after_boot, Stored, stored_by, HasPlanOf}
use Rattle.boot_requests.specs.Seen.{Seen, Came, Malformed, Prepare, Hand, Restart}
use Rattle.boot_requests.specs.Window.{Requests, gap_of, is_open}
use Rattle.boot_requests.specs.Changes.{Change, Applies, Boots, changes_between, after_changes}

-- the run, and then these, in order
abbrev pub run_followed_by : List Seen → List Seen → List Seen
run_followed_by run [] = run
run_followed_by run (seen ∷ later) = run_followed_by (seen ∷ run) later

-- ---- which requests are accepted

-- The accepted requests, if the numbers begin with the first: each first request of its number that came when that
-- number was open. Those after the gap are forgotten when the keeper starts again.
abbrev pub accepted_requests : ℕ → List Seen → Requests
accepted_requests first [] = empty
accepted_requests first (Came number request ∷ before) =
    let requests = accepted_requests first before in
    if is_open requests (gap_of first requests) number then insert requests number request else requests
accepted_requests first (Restart ∷ before) =
    let requests = accepted_requests first before in
    let gap = gap_of first requests in
    retain_keys requests (λ number. nat_lt number gap)
accepted_requests first (Malformed fault ∷ before) = accepted_requests first before
accepted_requests first (Prepare ∷ before) = accepted_requests first before
accepted_requests first (Hand ∷ before) = accepted_requests first before

-- the least number that isn't accepted: the number of the request that is to be applied next
abbrev pub gap_at : ℕ → List Seen → ℕ
gap_at first run = gap_of first (accepted_requests first run)

-- ---- which plans are prepared

-- whether a plan is prepared, and neither handed out since nor forgotten by a restart
abbrev pub is_armed : List Seen → Bool
is_armed [] = false
is_armed (Came number request ∷ before) = is_armed before
is_armed (Malformed fault ∷ before) = is_armed before
is_armed (Prepare ∷ before) = true
is_armed (Hand ∷ before) = false
is_armed (Restart ∷ before) = false

-- among these no plan was to be handed out, and the keeper didn't start again
abbrev pub HaveNoHandOrRestart : List Seen → Type 0
HaveNoHandOrRestart = AllByRecursion (λ seen. (seen ≢ Hand) × (seen ≢ Restart))

-- what happened before the last boot that was prepared while no plan was: such a boot is taken. Nothing, if none was
-- taken.
abbrev pub before_taken : List Seen → List Seen
before_taken [] = []
before_taken (Came number request ∷ before) = before_taken before
before_taken (Malformed fault ∷ before) = before_taken before
before_taken (Prepare ∷ before) = if is_armed before then before_taken before else before
before_taken (Hand ∷ before) = before_taken before
before_taken (Restart ∷ before) = before_taken before

-- ---- the history: what is done to the state, oldest first

-- what is done as this happens: a request that fills the gap is applied with those that follow it without one, and a
-- boot that is taken deletes BootNext
abbrev pub new_changes : ℕ → List Seen → Seen → List Change
new_changes first before (Came number request) =
    let run = Came number request ∷ before in changes_between (gap_at first before) (gap_at first run) (accepted_requests first run)
new_changes first before (Malformed fault) = []
new_changes first before Prepare = if is_armed before then [] else Boots ∷ []
new_changes first before Hand = []
new_changes first before Restart = []

-- all that is done to the state in a run, oldest first
abbrev pub history : ℕ → List Seen → List Change
history first [] = []
history first (seen ∷ before) = history first before ++ new_changes first before seen

-- the state after a run, from the state at its start
abbrev pub state_at : State → List Seen → State
state_at start run = after_changes start (history start.next_number run)

-- the plan that is prepared and not handed out yet: that of the state before the last boot that was taken
abbrev pub IsPending : State → List Seen → Option PlanParts → Type 0
IsPending start run None = is_armed run ≡ false
IsPending start run (Some plan) = (is_armed run ≡ true) × HasPlanOf (state_at start (before_taken run)) plan

-- ---- what becomes of each entry and of BootNext

abbrev pub is_done : Code → Bool
is_done Done = true
is_done Exists = false
is_done Missing = false
is_done OrderRepeats = false
is_done OrderUnknown = false
is_done NoFree = false

-- whether the request sets BootNext to the entry
abbrev pub is_next : Request → ℕ → Bool
is_next (Next next) entry = next == entry
is_next (Add number option) entry = false
is_next (Replace number option) entry = false
is_next (Remove number) entry = false
is_next (Order numbers) entry = false
is_next (AddFree option) entry = false
is_next (AddFirst option) entry = false
is_next (First number) entry = false

-- how often changes set BootNext to the entry, from this state on
abbrev pub sets_in : State → List Change → ℕ → ℕ
sets_in m [] entry = 0
sets_in m (Applies number request ∷ changes) entry =
    (if is_next request entry && is_done (outcome_of m request).code then 1 else 0) + sets_in (after_request m request) changes entry
sets_in m (Boots ∷ changes) entry = sets_in (after_boot m) changes entry

-- whether this, as BootNext, is the entry
abbrev pub is_next_entry : Option ℕ → ℕ → Bool
is_next_entry None entry = false
is_next_entry (Some next) entry = next == entry

-- how often a run set BootNext to the entry, at its start included
abbrev pub sets : State → List Seen → ℕ → ℕ
sets start run entry = (if is_next_entry start.boot_next entry then 1 else 0) + sets_in start (history start.next_number run) entry

-- what was stored of the entry last: this, if it is of the entry, or else what was before
abbrev pub last_with : Option Stored → ℕ → Option Stored → Option Stored
last_with None entry last = last
last_with (Some stored) entry last = if entry == stored.entry then Some stored else last

-- what was stored of the entry last, by changes from this state on, or else before them
abbrev pub last_in : State → List Change → ℕ → Option Stored → Option Stored
last_in m [] entry last = last
last_in m (Applies number request ∷ changes) entry last =
    last_in (after_request m request) changes entry (last_with (stored_by request (outcome_of m request)) entry last)
last_in m (Boots ∷ changes) entry last = last_in (after_boot m) changes entry last

-- what the last request of a run that stored or removed the entry stored of it
abbrev pub last_of : State → List Seen → ℕ → Option Stored
last_of start run entry = last_in start (history start.next_number run) entry None

-- ---- runs of deliveries alone

-- the run delivers the request with this number
abbrev pub Delivers : List Seen → ℕ → Request → Type 0
Delivers [] number request = ⊥
Delivers (Came other another ∷ before) number request =
    ((other ≡ number) × (another ≡ request)) ⊎ Delivers before number request
Delivers (Malformed fault ∷ before) number request = Delivers before number request
Delivers (Prepare ∷ before) number request = Delivers before number request
Delivers (Hand ∷ before) number request = Delivers before number request
Delivers (Restart ∷ before) number request = Delivers before number request

-- nothing but deliveries happened, and none was too far ahead as it came
abbrev pub AreTaken : ℕ → List Seen → Type 0
AreTaken first [] = Unit {0}
AreTaken first (Came number request ∷ before) = (number < gap_at first before + width) × AreTaken first before
AreTaken first (Malformed fault ∷ before) = AreTaken first before
AreTaken first (Prepare ∷ before) = ⊥
AreTaken first (Hand ∷ before) = ⊥
AreTaken first (Restart ∷ before) = ⊥

-- no number has two requests
abbrev pub AgreeOnNumbers : List Seen → Type 0
AgreeOnNumbers run = (number : ℕ) (a b : Request) → Delivers run number a → Delivers run number b → a ≡ b
