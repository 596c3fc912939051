-- One step of a keeper, as a table over plain states. It knows nothing of runs.
use Rattle.std.specs.Prelude.{◌≡◌, ℕ, nat_lt, if◌then◌else◌, List, [], ◌∷◌, Option, Some, None, MatchOption}
use Rattle.std.specs.FinMap.{empty, insert, retain_keys}
use Rattle.uefi_vars.specs.Plan.{PlanParts}
use Rattle.boot_requests.specs.declared.request.Request.{Request}
use Rattle.boot_requests.specs.declared.reply.Reply.{Reply}
use Rattle.boot_requests.specs.declared.reply.Reply.TheVariants as reply
use Rattle.boot_requests.specs.State.{State}
use Rattle.boot_requests.specs.Apply.{after_boot, HasPlanOf}
use Rattle.boot_requests.specs.Seen.{Seen, Came, Malformed, Prepare, Hand, Restart}
use Rattle.boot_requests.specs.Window.{Requests, gap_of, is_open}
use Rattle.boot_requests.specs.Changes.{changes_between, after_changes}
use Rattle.boot_requests.specs.Answer.{IsReplyTo, choice_count, reply_to_hand}

-- the state of the boot entries, the requests that wait, by numbers above the next one, and the plan that is prepared
pub record Plain : Type 0 where
  pub state : State
  pub waiting : Requests
  pub plan : Option PlanParts

-- nothing waits and nothing is prepared
abbrev pub plain_start : State → Plain
plain_start m = record { state = m; waiting = empty; plan = None }

-- If these requests wait, those that follow each other from the next number on are applied, and the others go on
-- waiting.
abbrev pub settled_state : Plain → Requests → Plain
settled_state k requests =
    let next_number = k.state.next_number in
    let after = gap_of next_number requests in
    record k {
      state = after_changes k.state (changes_between next_number after requests);
      waiting = retain_keys requests (λ number. nat_lt after number);
    }

-- a request comes with its number: it waits if its number is open, and changes nothing if not
abbrev pub after_delivery : Plain → ℕ → Request → Plain
after_delivery k number request =
    if is_open k.waiting k.state.next_number number then settled_state k (insert k.waiting number request) else k

-- from the one plain state, what happens leads to the other and is answered so
abbrev pub Turn : Plain → Seen → Plain → Reply → Type 0
Turn k (Came number request) to answer =
    (to ≡ after_delivery k number request)
    × IsReplyTo k.state k.waiting k.state.next_number (after_delivery k number request).state.next_number number request answer
Turn k (Malformed fault) to answer = (to ≡ k) × (answer ≡ reply.Malformed fault)
Turn k Prepare to answer =
    MatchOption k.plan
    ((plan : PlanParts) × HasPlanOf k.state plan
    × (to ≡ record k { state = after_boot k.state; plan = Some plan }) × (answer ≡ reply.Prepared (choice_count plan)))
    (λ _. (to ≡ k) × (answer ≡ reply.AlreadyPrepared))
Turn k Hand to answer = (to ≡ record k { plan = None }) × (answer ≡ reply_to_hand k.plan)
Turn k Restart to answer = (to ≡ plain_start k.state) × (answer ≡ reply.Restarted k.state.next_number)

-- these happen, in order, and lead from the one plain state to the other, each answered so
abbrev pub Turns : Plain → List Seen → Plain → List Reply → Type 0
Turns k [] to answers = (to ≡ k) × (answers ≡ [])
Turns k (seen ∷ later) to [] = ⊥
Turns k (seen ∷ later) to (answer ∷ answers) = (next : Plain) × Turn k seen next answer × Turns next later to answers
