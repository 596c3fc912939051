-- What a caller and a command say to each other, and what that is among calls of `command`. In each list the newest is the
-- first.
use Rattle.std.specs.Prelude.{◌≡◌, ◌⊎◌, ℕ, Bool, List, [], ◌∷◌, map, Option, Some, None, Result, Ok, Err, Vec}
use Rattle.std.specs.Global.{Global}
use Rattle.uefi_vars.specs.Vars.{Variables}
use Rattle.boot_requests.specs.declared.answer.Answer.{Answer as Reply}
use Rattle.boot_journal.specs.declared.machine.CommandError.{CommandError}
use Rattle.boot_journal.specs.declared.machine.CommandError.TheVariants as command
use Rattle.boot_journal.specs.declared.machine.UpdateError.{UpdateError}
use Rattle.boot_journal.specs.declared.machine.UpdateError.TheVariants as update
use Rattle.journaled_requests.specs.declared.requests.Requests.{Requests}
use Rattle.journaled_requests.specs.declared.requests.RunFault.{RunFault}
use Rattle.journaled_requests.specs.Calls.{Ending, Done, Unchanged, NotRun, Open, Call, Runs, Step, world_after}
use Rattle.journaled_requests.specs.Calls as call
use Rattle.boot_journal.specs.Events.{World, happens}
use Rattle.boot_journal.specs.Events as event
use Rattle.journaled_requests.specs.Requests.{IsAnswered}
use Rattle.journaled_requests.specs.RunFault.{IsRunFault}
use Rattle.boot_journal.specs.Store.{Store}
use Rattle.boot_moves.specs.declared.parts.Answer.{Answer}
use Rattle.boot_moves.specs.Deeds.{Act, did, after_all}
use Rattle.boot_moves.specs.Ending.{AreOfCommand, LeadsTo, Ends, with_asked}
use Rattle.boot_moves.specs.Parts.{MovesParts, told_of}

-- a call of `next` or of `tell`, and what it says
pub data Exchange (A F : Type 0) : Type 0 where
  -- `next` says that a move comes next
  Asks : Exchange A F
  -- `next` says that the command ended so
  Ended : Result A (CommandError ℕ F) → Exchange A F
  -- `next` says that memory was refused
  Fails : Exchange A F
  -- `tell` says that this became of the move
  Tells : Answer → Exchange A F

-- from the one value to the other, by what the contracts of the two say
abbrev pub ExchangeLeads : {R A F : Type 0} → (R → Variables → Variables → A → Type 0) → (R → Variables → F → Type 0)
    → MovesParts R → Exchange A F → MovesParts R → Type 0
ExchangeLeads Leads Refuses m Asks n =
    (n.begun ≡ m.begun) × (n.trace ≡ m.trace)
    × (act : Act) × (n.asked ≡ Some act)
    × AreOfCommand (LeadsTo (Leads m.begun.run)) m.begun.boot m.begun.first (with_asked m.trace act)
ExchangeLeads Leads Refuses m (Ended result) n =
    (n.begun ≡ m.begun) × (n.trace ≡ m.trace) × (n.asked ≡ None)
    × Ends (Leads m.begun.run) (Refuses m.begun.run) m.begun.boot m.begun.first (after_all m.trace m.begun.first) result
ExchangeLeads Leads Refuses m Fails n = n ≡ m
ExchangeLeads Leads Refuses m (Tells answer) n = n ≡ told_of answer m

-- an exchange, and the value after it
pub record Exchanged (R A F : Type 0) : Type 0 where
  pub exchange : Exchange A F
  pub after : MovesParts R

-- the value after these, from this one on
abbrev pub value_after : {R A F : Type 0} → MovesParts R → List (Exchanged R A F) → MovesParts R
value_after m [] = m
value_after m (exchanged ∷ before) = exchanged.after

-- exchanges one after the other, the newest first, each leading to the value after it
abbrev pub AreExchanges : {R A F : Type 0} → (R → Variables → Variables → A → Type 0) → (R → Variables → F → Type 0)
    → MovesParts R → List (Exchanged R A F) → Type 0
AreExchanges Leads Refuses m [] = Unit {0}
AreExchanges Leads Refuses m (exchanged ∷ before) =
    ExchangeLeads Leads Refuses (value_after m before) exchanged.exchange exchanged.after × AreExchanges Leads Refuses m before

-- nothing was exchanged yet
pub record IsNew {R : Type 0} (m : MovesParts R) : Type 0 where
  pub trace : m.trace ≡ []
  pub asked : m.asked ≡ None

-- What may be there between two exchanges, if the caller tells the truth: what the moves that were told left, or that and
-- then the move that is asked for.
abbrev pub MayBeThere : {R : Type 0} → MovesParts R → Store → Type 0
MayBeThere m s =
    (s ≡ after_all m.trace m.begun.first)
    ⊎ ((act : Act) × (m.asked ≡ Some act) × (s ≡ did act (after_all m.trace m.begun.first)))

-- ---- of requests

-- exchanges with a command that runs requests
abbrev pub RequestsExchanged : Type 0
RequestsExchanged = Exchanged Requests (Vec Reply Global) RunFault

-- where requests lead, and what they refuse
abbrev pub RequestsLead : Requests → Variables → Variables → Vec Reply Global → Type 0
RequestsLead requests from to answers = IsAnswered requests.events.now from to answers.items

abbrev pub RequestsRefuse : Requests → Variables → RunFault → Type 0
RequestsRefuse requests from fault = IsRunFault requests.events.now from fault

abbrev pub AreOfRequests : MovesParts Requests → List RequestsExchanged → Type 0
AreOfRequests m exchanges = AreExchanges RequestsLead RequestsRefuse m exchanges

-- how a command ends, that ends so, among the calls of which the laws of `boot_journal` speak
abbrev pub update_ending : UpdateError ℕ → Ending
update_ending update.OutOfMemory = Unchanged
update_ending (update.TakenBack _) = Unchanged
update_ending (update.Unsettled _ _) = Open

abbrev pub ending_of : {A F : Type 0} → Result A (CommandError ℕ F) → Ending
ending_of (Ok answer) = Done
ending_of (Err (command.Settling _)) = NotRun
ending_of (Err command.OutOfMemory) = Unchanged
ending_of (Err (command.Run _)) = Unchanged
ending_of (Err (command.Updating error)) = update_ending error

-- ---- one after the other

-- how a command ended whose last exchange this was: another one leaves it open
abbrev pub ending_by : {A F : Type 0} → Exchange A F → Ending
ending_by Asks = Open
ending_by (Ended result) = ending_of result
ending_by Fails = Open
ending_by (Tells answer) = Open

abbrev pub ending_in : {R A F : Type 0} → List (Exchanged R A F) → Ending
ending_in [] = Open
ending_in (exchanged ∷ before) = ending_by exchanged.exchange

-- what a caller or firmware does
pub data Doing : Type 0 where
  -- a command of requests, that its caller makes: how it begins, and what they say to each other
  Makes : MovesParts Requests → List RequestsExchanged → Doing
  -- the machine is started anew, under this identity, and firmware deletes BootNext or leaves it
  Starts : List ℕ → Bool → Doing
  -- firmware changes variables by itself
  Firmware : List (List ℕ × Option (List ℕ)) → Doing

-- from the one world to the other: a command begins with what is there, and leaves what may be there
abbrev pub DoingLeads : World → Doing → World → Type 0
DoingLeads w (Makes m exchanges) v =
    IsNew m × (m.begun.boot ≡ w.boot) × (m.begun.first ≡ w.store) × AreOfRequests m exchanges
    × (v.boot ≡ w.boot) × MayBeThere (value_after m exchanges) v.store
DoingLeads w (Starts boot deletes) v = v ≡ happens w (event.Starts boot deletes)
DoingLeads w (Firmware changes) v = v ≡ happens w (event.Firmware changes)

-- something that is done, and the world after it
pub record DoneStep : Type 0 where
  pub doing : Doing
  pub after : World

-- the call that it is
abbrev pub call_by : Doing → Call
call_by (Makes m exchanges) = Runs m.begun.run.events.now (ending_in exchanges)
call_by (Starts boot deletes) = call.Starts boot deletes
call_by (Firmware changes) = call.Firmware changes

abbrev pub step_by : DoneStep → Step
step_by did = record { call = call_by did.doing; after = did.after }

-- done one after the other, the newest first
abbrev pub AreDone : World → List DoneStep → Type 0
AreDone w [] = Unit {0}
AreDone w (did ∷ before) = DoingLeads (world_after w (map step_by before)) did.doing did.after × AreDone w before
