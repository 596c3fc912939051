-- A plan is handed out only after a boot that was taken, with no hand and no restart in between.
use Rattle.std.proofs.Common.{◌≡◌, ◌≢◌, ℕ, true, false, List, [], ◌∷◌, ◌++◌, Option, Some, None, refl, ap, subst}
use Rattle.std.specs.Prelude.{if◌then◌else◌}
use Rattle.uefi_vars.specs.Plan.{PlanParts}
use Rattle.boot_requests.specs.declared.request.Request.{Request}
use Rattle.boot_requests.specs.declared.outcome.Outcome.{Outcome}
use Rattle.boot_requests.specs.declared.reply.Reply.TheVariants as reply
use Rattle.boot_requests.specs.State.{State}
use Rattle.boot_requests.specs.Apply.{HasPlanOf}
use Rattle.boot_requests.specs.Seen.{Seen, Came, Malformed, Prepare, Hand, Restart}
use Rattle.boot_requests.specs.Window.{Requests}
use Rattle.boot_requests.specs.Run.{accepted_requests, gap_at, is_armed, HaveNoHandOrRestart, before_taken, state_at, IsPending}
use Rattle.boot_requests.specs.Answer.{IsReplyTo, again, kept_outcome, reply_to_hand}
use Rattle.boot_requests.specs.Reply.{IsReply}
use Rattle.boot_requests.proofs.WholeRuns.Told.{IsToldOfBoot, by_answer}

-- the run has a boot that was taken before these, and since then neither a hand nor a restart
pub record IsTaken (run before : List Seen) : Type 0 where
  pub later : List Seen
  pub parts : run ≡ later ++ Prepare ∷ before
  pub quiet : HaveNoHandOrRestart later
  pub unarmed : is_armed before ≡ false

still : (seen : Seen) (run before : List Seen) → (seen ≢ Hand) → (seen ≢ Restart) → IsTaken run before → IsTaken (seen ∷ run) before
still seen run before hand restart h = record {
  later = seen ∷ h.later;
  parts = ap (λ (r : List Seen). seen ∷ r) h.parts;
  quiet = ((hand, restart), h.quiet);
  unarmed = h.unarmed;
}

-- if a plan is prepared, a boot was taken
taken : (run : List Seen) → is_armed run ≡ true → IsTaken run (before_taken run)
taken (Came number request ∷ run) h = still (Came number request) run (before_taken run) (λ e. cc) (λ e. cc) (taken run h)
taken (Malformed fault ∷ run) h = still (Malformed fault) run (before_taken run) (λ e. cc) (λ e. cc) (taken run h)
taken (Prepare ∷ run) h =
    elim (is_armed run) as (λ b. is_armed run ≡ b → IsTaken (Prepare ∷ run) (if b then before_taken run else run)) [
      | true ↦ λ t. still Prepare run (before_taken run) (λ e. cc) (λ e. cc) (taken run t)
      | false ↦ λ t. record { later = []; parts = refl; quiet = tt; unarmed = t }
    ] refl
taken _ h = absurd (let no : false ≡ true = h in cc)

-- ---- no other event is answered so

module _ (plan : PlanParts) where
  not_again : (o : Option Outcome) → reply.Plan plan ≡ again o → ⊥
  not_again None e = cc
  not_again (Some outcome) e = cc

  no_plan : (m : State) (requests : Requests) (gap after number : ℕ) (request : Request) → IsReplyTo m requests gap after number request (reply.Plan plan) → ⊥
  no_plan m requests gap after number request =
      by_answer m requests gap after number request (reply.Plan plan) ⊥
      (not_again (kept_outcome m number)) (λ h. cc) (λ none here h. cc) (λ h. cc) (λ h. cc)

  not_prepared : (start : State) (run : List Seen) → IsReply start run Prepare (reply.Plan plan) → ⊥
  not_prepared start run =
      elim (is_armed run) as (λ b. IsToldOfBoot b (state_at start run) (reply.Plan plan) → ⊥) [
        | true ↦ λ h. (let e : reply.Plan plan ≡ reply.AlreadyPrepared = h in cc)
        | false ↦ λ h. (let e = h.2 in cc)
      ]

  pub by_hand : (start : State) (run : List Seen) (seen : Seen) → IsReply start run seen (reply.Plan plan) → seen ≡ Hand
  by_hand start run (Came number request) h =
      absurd (no_plan (state_at start run) (accepted_requests start.next_number run) (gap_at start.next_number run)
      (gap_at start.next_number (Came number request ∷ run)) number request h)
  by_hand start run (Malformed fault) h = absurd (let e : reply.Plan plan ≡ reply.Malformed fault = h in cc)
  by_hand start run Prepare h = absurd (not_prepared start run h)
  by_hand start run Hand h = refl
  by_hand start run Restart h = absurd (let e : reply.Plan plan ≡ reply.Restarted (gap_at start.next_number run) = h in cc)

  -- the plan that is handed out is the one that is pending
  pending : (start : State) (run : List Seen) (found : Option PlanParts) → IsPending start run found → reply.Plan plan ≡ reply_to_hand found →
      (is_armed run ≡ true) × HasPlanOf (state_at start (before_taken run)) plan
  pending start run None h e = absurd (let no : reply.Plan plan ≡ reply.NothingPrepared = e in cc)
  pending start run (Some other) h e =
      let same : other ≡ plan = (let is : reply.Plan plan ≡ reply.Plan other = e in cc) in
      (h.0, subst (λ (p : PlanParts). HasPlanOf (state_at start (before_taken run)) p) same h.1)

  pub after_boot : (start : State) (run : List Seen) (seen : Seen) → IsReply start run seen (reply.Plan plan) →
      (later : List Seen) × (before : List Seen) × (run ≡ later ++ Prepare ∷ before) × HaveNoHandOrRestart later × (is_armed before ≡ false)
      × HasPlanOf (state_at start before) plan
  after_boot start run seen h =
      let told : IsReply start run Hand (reply.Plan plan) = rw (by_hand start run seen h) at h in
      let there = pending start run told.0 told.1 told.2 in
      let boot = taken run there.0 in
      (boot.later, before_taken run, boot.parts, boot.quiet, boot.unarmed, there.1)
