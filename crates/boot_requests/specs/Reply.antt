-- What is answered to what happens, after a run.
use Rattle.std.specs.Prelude.{◌≡◌, ℕ, ◌+◌, ◌==◌, if◌then◌else◌, List, [], ◌∷◌, Option, Some, None, MatchBool}
use Rattle.uefi_vars.specs.declared.boot_plan.Choice.{Choice}
use Rattle.uefi_vars.specs.Plan.{PlanParts}
use Rattle.boot_requests.specs.declared.reply.Reply.{Reply}
use Rattle.boot_requests.specs.declared.reply.Reply.TheVariants as reply
use Rattle.boot_requests.specs.State.{State}
use Rattle.boot_requests.specs.Apply.{HasPlanOf}
use Rattle.boot_requests.specs.Seen.{Seen, Came, Malformed, Prepare, Hand, Restart}
use Rattle.boot_requests.specs.Answer.{IsReplyTo, choice_count, reply_to_hand}
use Rattle.boot_requests.specs.Run.{accepted_requests, gap_at, is_armed, state_at, IsPending}

-- the answer to what happens after a run, from the state at its start
abbrev pub IsReply : State → List Seen → Seen → Reply → Type 0
IsReply start run (Came number request) answer =
    let first = start.next_number in
    IsReplyTo (state_at start run) (accepted_requests first run) (gap_at first run) (gap_at first (Came number request ∷ run))
    number request answer
IsReply start run (Malformed fault) answer = answer ≡ reply.Malformed fault
IsReply start run Prepare answer =
    MatchBool (is_armed run) (answer ≡ reply.AlreadyPrepared)
    ((plan : PlanParts) × HasPlanOf (state_at start run) plan × (answer ≡ reply.Prepared (choice_count plan)))
IsReply start run Hand answer =
    (plan : Option PlanParts) × IsPending start run plan × (answer ≡ reply_to_hand plan)
IsReply start run Restart answer = answer ≡ reply.Restarted (gap_at start.next_number run)

-- the answers to a whole run, the newest first
abbrev pub AreReplies : State → List Seen → List Reply → Type 0
AreReplies start [] answers = answers ≡ []
AreReplies start (seen ∷ before) [] = ⊥
AreReplies start (seen ∷ before) (answer ∷ answers) = IsReply start before seen answer × AreReplies start before answers

-- the answers to these after a run, one each, in order
abbrev pub AreAnswers : State → List Seen → List Seen → List Reply → Type 0
AreAnswers start run [] answers = answers ≡ []
AreAnswers start run (seen ∷ later) [] = ⊥
AreAnswers start run (seen ∷ later) (answer ∷ answers) =
    IsReply start run seen answer × AreAnswers start (seen ∷ run) later answers

abbrev pub names_next : Option Choice → ℕ → ℕ
names_next None entry = 0
names_next (Some choice) entry = if choice.number == entry then 1 else 0

-- 1 if the answer hands out a plan that tries the entry as BootNext's
abbrev pub hands_out : Reply → ℕ → ℕ
hands_out (reply.Plan plan) entry = names_next plan.next entry
hands_out _ entry = 0

-- how often the entry was handed out as BootNext's
abbrev pub hands : List Reply → ℕ → ℕ
hands [] entry = 0
hands (answer ∷ answers) entry = hands_out answer entry + hands answers entry
